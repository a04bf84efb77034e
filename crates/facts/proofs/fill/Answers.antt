-- `facts::fill` meets its contract. Assumes nothing.
use Rattle.std.proofs.Common.{arith}
use Rattle.meaning.specs.Tables.{kind, left, right, class_of}
use Rattle.facts_classes.proofs.Linking.{slot_below}
use Rattle.facts.proofs.Finding.{more_reach}
use Rattle.facts.proofs.Filling.{filled_none, filled_more, filled_known, filled_reach}
use Rattle.facts.proofs.fill.Goals as goal

pub loop-n-init : goal.loop-n-init
loop-n-init c = (filled_none c.args.columns.now c.args.groups.now, c.new-chains.ensures c.args.columns.now)

pub facts_at-found-requires : goal.facts_at-found-requires
facts_at-found-requires c =
    record {
      reach =
          more_reach _ _ _ _ (filled_reach _ _ _ _ c.loop-n.invariant.0 _ c.requires (omega arith)) (omega arith);
      known = filled_known _ _ _ _ c.loop-n.invariant.0 _ c.requires (omega arith);
      entry = c.requires.entries c.loop-n.n c.loop-n-test.true;
      chained = c.loop-n.invariant.1;
    }

pub add-requires : goal.add-requires
add-requires c =
    let t = c.args.columns.now in
    let b = slot_below (kind t c.loop-n.n) (class_of t (left t c.loop-n.n)) (class_of t (right t c.loop-n.n)) in
    (omega (arith, c.facts_at-found.ensures.slot_is), omega (arith, c.requires.reach.few))

pub loop-n-preserved : goal.loop-n-preserved
loop-n-preserved c = (
  filled_more _ _ _ _ c.loop-n.invariant.0 _ _ c.facts_at-found.ensures.facts_are c.put_group.ensures,
  c.add.ensures c.args.columns.now c.loop-n.invariant.1 c.facts_at-found.ensures.facts_are.class_is c.facts_at-found.ensures.slot_is,
)
