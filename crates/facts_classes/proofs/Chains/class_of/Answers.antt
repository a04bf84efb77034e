-- `facts_classes::Chains::class_of` meets its contract. Assumes nothing.
use Rattle.std.proofs.Common.{sym, ◌∙◌, arith}
use Rattle.tables.specs.Kinds.{kind_no}
use Rattle.facts_classes.proofs.Linking.{slot_below}
use Rattle.facts_classes.proofs.Seeking.{starts, goes_on, left_reach, right_reach, left_class, right_class, with_key, other_kind, class_here, class_new}
use Rattle.facts_classes.proofs.Chains.class_of.Goals as goal
use Rattle.facts_classes.proofs.Chains.class_of.Goals.{else-columns-m-via-then-columns-m+then-class_at-key+else-class_at-key-2, else-columns-m-via-then-columns-m+else-class_at-key, else-columns-m-via-else-columns-m}

pub offset_bounds-self-slot : goal.offset_bounds-self-slot
offset_bounds-self-slot c =
    omega (arith, c.slot.ensures, slot_below (kind_no c.args.key.kind) c.args.key.left c.args.key.right)

pub bounds-self-slot : goal.bounds-self-slot
bounds-self-slot c =
    omega (arith, c.slot.ensures, slot_below (kind_no c.args.key.kind) c.args.key.left c.args.key.right)

pub loop-m-init : goal.loop-m-init
loop-m-init c =
    starts _ _ _ _ _ c.requires _ c.slot.ensures

pub class_at-requires : goal.class_at-requires
class_at-requires c =
    left_reach _ _ _ _ _ c.requires _ c.columns.view_is _ c.loop-m.invariant c.loop-m-test.true

pub class_at-requires-then-class_at-key : goal.class_at-requires-then-class_at-key
class_at-requires-then-class_at-key c =
    right_reach _ _ _ _ _ c.requires _ c.columns.view_is _ c.loop-m.invariant c.loop-m-test.true

pub returns-then-class_at-key-2 : goal.returns-then-class_at-key-2
returns-then-class_at-key-2 c =
    class_here _ _ _ _ _ c.requires _ c.columns.view_is _ c.loop-m.invariant c.loop-m-test.true
    (with_key _ _ _ _ _ c.requires _ c.columns.view_is _ c.loop-m.invariant c.loop-m-test.true c.if-columns-m.true
    (sym c.class_at.ensures ∙ c.if-class_at-key.true)
    (sym c.class_at-then-class_at-key.ensures ∙ c.if-class_at-key-2.true))

pub loop-m-preserved : goal.loop-m-preserved
loop-m-preserved c =
    goes_on _ _ _ _ _ c.requires _ c.columns.view_is _ c.loop-m.invariant c.loop-m-test.true
    (λ v.
    elim c.else-columns-m.branch [
      | else-columns-m-via-then-columns-m+then-class_at-key+else-class_at-key-2 w ↦
          w.if-class_at-key-2.false (w.class_at-then-class_at-key.ensures ∙ right_class _ _ _ _ _ c.requires _ c.columns.view_is _ c.loop-m.invariant c.loop-m-test.true ∙ v.same_right)
      | else-columns-m-via-then-columns-m+else-class_at-key w ↦ w.if-class_at-key.false (w.class_at.ensures ∙ left_class _ _ _ _ _ c.requires _ c.columns.view_is _ c.loop-m.invariant c.loop-m-test.true ∙ v.same_left)
      | else-columns-m-via-else-columns-m w ↦ other_kind _ _ _ _ _ c.requires _ c.columns.view_is _ c.loop-m.invariant c.loop-m-test.true w.if-columns-m.false v
    ])

pub returns : goal.returns
returns c =
    class_new _ _ _ _ _ c.requires _ c.loop-m.invariant c.loop-m-test.false
