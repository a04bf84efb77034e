-- The first node at fault, from what a pass over the nodes has seen.
--
--   bad_here no_bad                 the first node with anything wrong: the first that the pass met; none
--   entries_to known_none known_more       right entries below a node and at it; no node; one more node that is right
--   table_reach reach_table         a table whose facts lie in groups reaches its count exactly if the groups do
--   entry_read                      the entry of a node, from the columns as they lie there
-- Assumes nothing.
use Rattle.std.proofs.Common.{ℕ, ◌≡◌, ◌+◌, ◌*◌, ◌<◌, ◌≤◌, List, Bool, true, false, not, ◌&&◌, length, ap, sym, subst, ◌∙◌, arith}
use mathlib.Core.Logic.{⊎_elim}
use native.Mathlib.Nat.{eq-or-lt_of_le, not-suc-le-zero}
use borrow.Author.Tests.{leb-true, le-leb}
use Rattle.meaning.specs.Groups.{group_size}
use Rattle.meaning.specs.Tables.{Columns, Facts, Table, facts_in, kind, left, right, sides_right, entry_right, facts_right, first_bad}
use Rattle.meaning.proofs.Groups.{groups-reach}
use Rattle.meaning.proofs.Tests.{and_both}
use Rattle.meaning.proofs.Choices.{least_unique, least_none}
use Rattle.meaning.proofs.Trees.{RightTo}
use Rattle.facts.specs.Known.{FullReach, TableReach, Known}

right-node : Table → ℕ → Bool
right-node t k = entry_right t.columns k && facts_right t.columns t.facts k

known_node : (t : Table) (n : ℕ) → Known t.columns t.facts n → (k : ℕ) → k < n → right-node t k ≡ true
unfolding right-node
known_node t n h k l =
    and_both (entry_right t.columns k) (facts_right t.columns t.facts k) (h.entries k l) (h.facts-right k l)

pub bad_here : (t : Table) (m : ℕ) → m < t.count → Known t.columns t.facts m
    → (entry_right t.columns m && facts_right t.columns t.facts m) ≡ false
    → m ≡ first_bad t
unfolding first_bad right-node
bad_here t m h known bad =
    sym
    (least_unique (λ k. not (right-node t k)) t.count m (omega arith) (λ k l. ap not (known_node t m known k l)) (λ l. ap not bad))

pub no_bad : (t : Table) → Known t.columns t.facts t.count → t.count ≡ first_bad t
unfolding first_bad right-node
no_bad t known = sym (least_none (λ k. not (right-node t k)) t.count (λ k l. ap not (known_node t t.count known k l)))

pub entries_to : (c : Columns) (n : ℕ) → ((k : ℕ) → k < n → entry_right c k ≡ true) → entry_right c n ≡ true → RightTo c n
entries_to c n before here =
    record {
      right-at =
          λ k l. ⊎_elim (λ (e : k ≡ n). subst (λ (x : ℕ). entry_right c x ≡ true) (sym e) here) (λ (h : k < n). before k h) (eq-or-lt_of_le l);
    }

pub known_none : (c : Columns) (f : Facts) → Known c f 0
known_none c f = record { entries = λ k l. absurd (not-suc-le-zero l); facts-right = λ k l. absurd (not-suc-le-zero l) }

pub table_reach : (t : Table) (c : Columns) (g : List ℕ) (n : ℕ) → record { columns = c; facts = facts_in g; count = n } ≡ t → TableReach t → FullReach c g n
table_reach t c g n e h =
    let r = rw (← e) at h in
    record {
      few = r.few;
      entries_reach = r.entries_reach;
      groups-reach = leb-true (group_size * n) (length g) (sym (groups-reach n g) ∙ r.facts-reach);
    }

pub reach_table : (t : Table) (c : Columns) (g : List ℕ) (n : ℕ) → t ≡ record { columns = c; facts = facts_in g; count = n } → FullReach c g n → TableReach t
reach_table t c g n e h =
    rw e
    (record {
      few = h.few;
      entries_reach = h.entries_reach;
      facts-reach = groups-reach n g ∙ le-leb (group_size * n) (length g) h.groups-reach;
    })

pub entry_read : (c v : Columns) (n : ℕ) (b : Bool) → v ≡ c → b ≡ sides_right (kind v n) n (left v n) (right v n) → b ≡ entry_right c n
unfolding entry_right
entry_read c v n b same e = e ∙ ap (λ (t : Columns). entry_right t n) same

-- One more node is right.
pub known_more : (c : Columns) (f : Facts) (n : ℕ) → Known c f n → entry_right c n ≡ true → facts_right c f n ≡ true → Known c f (n + 1)
known_more c f n known e t =
    record {
      entries = λ k l. more k l (λ x. entry_right c x ≡ true) known.entries e;
      facts-right = λ k l. more k l (λ x. facts_right c f x ≡ true) known.facts-right t;
    }
  where
    more : (k : ℕ) → k < n + 1 → (P : ℕ → Type 0) → ((j : ℕ) → j < n → P j) → P n → P k
    more k l P before here =
        let g : k ≤ n = omega arith in
        ⊎_elim (λ (q : k ≡ n). subst P (sym q) here) (λ (h : k < n). before k h) (eq-or-lt_of_le g)
