-- Chains: how a walk along one goes, and how they grow.
--
--   slot_below                  a slot is one of 1,024
--   Along                       where a walk stands: nothing that is looked for lies ahead of it
--   last_falls                  a chain falls
--   along_start along_next      a walk begins, and goes on past a node with another key
--   along_own                   the node where it stands is of its own class
--   along_found along_end       what it finds
--   last_found                  what is found from a slot's start is found below n
--   chain_none                  before the first node
--   chain_put chain_skip        a node of its own class goes to the head of its slot; another changes nothing
-- Assumes nothing.
use Prim.Native.Nat.{ℕ, ◌+◌, ◌≤◌, ◌<◌}
use mathlib.Core.Path.{◌≡◌, refl, sym, ◌∙◌, subst}
use mathlib.Core.Logic.{◌⊎◌, inl, inr, ⊎_elim}
use native.Mathlib.Nat.{not-suc-le-zero, eq-or-lt_of_le}
use native.Mathlib.Omega.{arith}
use native.Mathlib.Decide.{dec_lt}
use lib.ListN.{get_or, set, replicate, length-set, length-replicate, get_or-replicate}
use lib.Seq.{get_or-set_same, get_or-set_other}
use Rattle.meaning.specs.Tables.{Columns, kind, left, right, class_of}
use Rattle.facts_classes.specs.Chains.{slot, slot_at, Last, InSlot, Keyed, Chained}
use Rattle.facts_classes.specs.declared.Chains.{Chains}

pub slot_below : (k a b : ℕ) → slot k a b < 1024
unfolding slot
slot_below k a b = omega arith

-- A node with a key is in the key's slot.
keyed_slot : (c : Columns) (k a b m : ℕ) → Keyed c k a b m → InSlot c (slot k a b) m
keyed_slot c k a b m h =
    let p = h.same_kind in
    let q = h.same_left in
    let r = h.same_right in
    record { own = h.own; falls = cc }

-- A chain falls.
pub last_falls : {P : ℕ → Type 0} {m next : ℕ} → Last P m next → (m ≡ 0 → ⊥) → next < m
last_falls {P} {m} {next} last ne = ⊎_elim (λ (z : next ≡ 0). omega arith) (λ (w : (next < m) × P next). w.0) last.has

-- A walk for a key among the nodes below n stands at m, in the key's slot: no node with the key lies ahead of it.
pub record Along (c : Columns) (k a b n m : ℕ) : Type 0 where
  pub within : m < n
  pub at : (m ≡ 0) ⊎ InSlot c (slot k a b) m
  pub covers : (j : ℕ) → j < n → Keyed c k a b j → j ≤ m

module _ (c : Columns) (k a b n : ℕ) where
  pub along_start : (m : ℕ) → (n ≡ 0 → ⊥) → Last (InSlot c (slot k a b)) n m → Along c k a b n m
  along_start m ne last =
      record {
        within = last_falls last ne;
        at = ⊎_elim (λ (z : m ≡ 0). inl z) (λ (w : (m < n) × InSlot c (slot k a b) m). inr w.1) last.has;
        covers = λ j l v. last.covers j l (keyed_slot c k a b j v);
      }

  -- The node at which a walk stands, where it has not ended.
  along_slot : (m : ℕ) → Along c k a b n m → (m ≡ 0 → ⊥) → InSlot c (slot k a b) m
  along_slot m h ne = ⊎_elim (λ e. absurd (ne e)) (λ (s : InSlot c (slot k a b) m). s) h.at

  pub along_own : (m : ℕ) → Along c k a b n m → (m ≡ 0 → ⊥) → class_of c m ≡ m
  along_own m h ne = (along_slot m h ne).own

  -- What a walk finds: the node where it stands, if that has the key, and none where it has ended.
  pub along_found : (m : ℕ) → Along c k a b n m → Keyed c k a b m → Last (Keyed c k a b) n m
  along_found m h w = record { has = inr (h.within, w); covers = h.covers }

  pub along_end : (m : ℕ) → Along c k a b n m → m ≡ 0 → Last (Keyed c k a b) n 0
  along_end m h e = record { has = inl refl; covers = λ j g v. let q = h.covers j g v in omega arith }

  pub along_next : (m next : ℕ) → Along c k a b n m → (m ≡ 0 → ⊥) → (Keyed c k a b m → ⊥)
      → Last (InSlot c (slot_at c m)) m next → Along c k a b n next
  along_next m next h ne other last =
      let l = h.within in
      let e : slot_at c m ≡ slot k a b = (along_slot m h ne).falls in
      record {
        within = let f = last_falls last ne in omega arith;
        at = ⊎_elim (λ (z : next ≡ 0). inl z) (λ (w : (next < m) × InSlot c (slot_at c m) next). inr (moved next e w.1)) last.has;
        covers = λ j g v. last.covers j (before j (h.covers j g v) v) (moved j (sym e) (keyed_slot c k a b j v));
      }
    where
      moved : (j : ℕ) {g h : ℕ} → g ≡ h → InSlot c g j → InSlot c h j
      moved j e i = subst (λ (x : ℕ). InSlot c x j) e i

      before : (j : ℕ) → j ≤ m → Keyed c k a b j → j < m
      before j g v =
          ⊎_elim (λ (q : j ≡ m). absurd (other (subst (λ (x : ℕ). Keyed c k a b x) q v))) (λ (q : j < m). q) (eq-or-lt_of_le g)

-- What a walk from a slot's start finds is the last node below n with the key.
pub last_found : (c : Columns) (k a b n start m : ℕ) → start < n → Last (InSlot c (slot k a b)) n start → Last (Keyed c k a b) (start + 1) m
    → Last (Keyed c k a b) n m
last_found c k a b n start m h from found =
    record {
      has =
          ⊎_elim (λ (z : m ≡ 0). inl z) (λ (w : (m < start + 1) × Keyed c k a b m). inr (let g = w.0 in omega arith, w.1))
          found.has;
      covers = λ j l v. found.covers j (let g = from.covers j l (keyed_slot c k a b j v) in omega arith) v;
    }

-- No number is the last below 0.
last_none : (P : ℕ → Type 0) (m : ℕ) → m ≡ 0 → Last P 0 m
last_none P m e = record { has = inl e; covers = λ k h p. omega arith }

pub chain_none : (c : Columns) → Chained c (record { heads = replicate 1024 0; links = replicate 1024 0 }) 0
chain_none c =
    record {
      all_heads = length-replicate {A = ℕ} 1024 0;
      all_links = length-replicate {A = ℕ} 1024 0;
      starts = λ h l. last_none (InSlot c h) (get_or (replicate {A = ℕ} 1024 0) h 0) (get_or-replicate {A = ℕ} 1024 h 0 0 l);
      goes_on = λ m l e. absurd (not-suc-le-zero l);
    }

-- The next node has not the property: the last that had it stays.
last_skip : (P : ℕ → Type 0) (n m : ℕ) → (P n → ⊥) → Last P n m → Last P (n + 1) m
last_skip P n m none last =
    record {
      has = ⊎_elim (λ (z : m ≡ 0). inl z) (λ (w : (m < n) × P m). inr (let g = w.0 in omega arith, w.1)) last.has;
      covers = λ k h p. last.covers k (below k h p) p;
    }
  where
    below : (k : ℕ) → k < n + 1 → P k → k < n
    below k h p =
        let g : k ≤ n = omega arith in
        ⊎_elim (λ (q : k ≡ n). absurd (none (subst P q p))) (λ (q : k < n). q) (eq-or-lt_of_le g)

-- The next node has it: it is the last.
last_put : (P : ℕ → Type 0) (n : ℕ) → P n → Last P (n + 1) n
last_put P n p = record { has = inr (omega arith, p); covers = λ k h q. omega arith }

-- A node that is not of its own class changes nothing.
pub chain_skip : (c : Columns) (r : Chains) (n : ℕ) → Chained c r n → (class_of c n ≡ n → ⊥) → Chained c r (n + 1)
chain_skip c r n h ne =
    record {
      all_heads = h.all_heads;
      all_links = h.all_links;
      starts = λ s l. last_skip (InSlot c s) n (get_or r.heads s 0) (λ i. ne i.own) (h.starts s l);
      goes_on = λ m l e. h.goes_on m (below m l e) e;
    }
  where
    below : (m : ℕ) → m < n + 1 → class_of c m ≡ m → m < n
    below m l e =
        let g : m ≤ n = omega arith in
        ⊎_elim (λ (q : m ≡ n). absurd (ne (subst (λ (x : ℕ). class_of c x ≡ x) q e))) (λ (q : m < n). q) (eq-or-lt_of_le g)

-- A number below n + 1 is below n or n.
below_next : (m n : ℕ) → m < n + 1 → (m ≡ n) ⊎ (m < n)
below_next m n l = eq-or-lt_of_le (let g : m ≤ n = omega arith in g)

-- Two numbers are the same or not.
same_or_not : (a b : ℕ) → (a ≡ b) ⊎ (a ≡ b → ⊥)
same_or_not a b = elim (dec_lt a b) [ yes h ↦ inr (λ e. omega arith) | no h ↦ elim (dec_lt b a) [ yes g ↦ inr (λ e. omega arith) | no g ↦ inl (omega arith) ] ]

-- A node of its own class goes to the head of its slot, and on to the one that stood there.
module _ (c : Columns) (r : Chains) (n s : ℕ) (h : Chained c r n) (own : class_of c n ≡ n) (e : s ≡ slot_at c n) (few : n < 1024) where
  slot_low : s < 1024
  slot_low = subst (λ (x : ℕ). x < 1024) (sym e) (slot_below (kind c n) (class_of c (left c n)) (class_of c (right c n)))

  in_slot : InSlot c s n
  in_slot = record { own = own; falls = sym e }

  starts_put : (g : ℕ) → g < 1024 → Last (InSlot c g) (n + 1) (get_or (set r.heads s n) g 0)
  starts_put g l =
      ⊎_elim
      (λ (q : g ≡ s).
      subst (λ (x : ℕ). Last (InSlot c x) (n + 1) (get_or (set r.heads s n) x 0)) (sym q)
      (subst (λ (x : ℕ). Last (InSlot c s) (n + 1) x)
      (sym (get_or-set_same r.heads s n 0 (let p = h.all_heads in let t = slot_low in omega arith)))
      (last_put (InSlot c s) n in_slot)))
      (λ (q : g ≡ s → ⊥).
      subst (λ (x : ℕ). Last (InSlot c g) (n + 1) x) (sym (get_or-set_other r.heads s g n 0 q))
      (last_skip (InSlot c g) n (get_or r.heads g 0) (λ i. q (sym i.falls ∙ sym e)) (h.starts g l)))
      (same_or_not g s)

  goes_on_put : (m : ℕ) → m < n + 1 → class_of c m ≡ m → Last (InSlot c (slot_at c m)) m (get_or (set r.links n (get_or r.heads s 0)) m 0)
  goes_on_put m l o =
      ⊎_elim
      (λ (q : m ≡ n).
      subst (λ (x : ℕ). Last (InSlot c (slot_at c x)) x (get_or (set r.links n (get_or r.heads s 0)) x 0)) (sym q)
      (subst (λ (x : ℕ). Last (InSlot c (slot_at c n)) n x)
      (sym (get_or-set_same r.links n (get_or r.heads s 0) 0 (let p = h.all_links in omega arith)))
      (subst (λ (x : ℕ). Last (InSlot c x) n (get_or r.heads s 0)) e (h.starts s slot_low))))
      (λ (q : m < n).
      subst (λ (x : ℕ). Last (InSlot c (slot_at c m)) m x) (sym (get_or-set_other r.links n m (get_or r.heads s 0) 0 (λ w. omega arith)))
      (h.goes_on m q o))
      (below_next m n l)

  pub chain_put : Chained c (record { heads = set r.heads s n; links = set r.links n (get_or r.heads s 0) }) (n + 1)
  chain_put =
      record {
        all_heads = length-set r.heads s n ∙ h.all_heads;
        all_links = length-set r.links n (get_or r.heads s 0) ∙ h.all_links;
        starts = starts_put;
        goes_on = goes_on_put;
      }
