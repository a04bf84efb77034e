-- The rungs that follow the first ones: 6 and 7, or 7 alone. The first ones are `g`, whatever they are.
--
--   misshapen shapely           7 by itself: a shape that is wrong, and one that is right
--   shape_wrong shape-right shape_accepted      7 after the first rungs: it refuses, it passes, it has passed
--   range_stop range_missed range_shape range_pass range_accepted       6 and 7 after them
-- Assumes nothing.
use Prim.Native.Nat.{ℕ}
use mathlib.Core.Path.{◌≡◌, ap, ◌∙◌}
use mathlib.Core.Bool.{Bool, true, false, not}
use mathlib.Core.List.{List, [], ◌++◌}
use borrow.Author.Tests.{not-false}
use Rattle.meaning.specs.Ladder.{refused, accepted, Rung, ladder, ranged, shaped}
use Rattle.meaning.proofs.Ladders.{ladder_parts, ladder_pass, ladder_stop, ladder_holds, ladder_fails, ladder_clear}

pub misshapen : (right : Bool) → right ≡ false → ladder (shaped right) (tt {0}) ≡ refused 7 0
misshapen right h = ladder_holds (not right) 7 0 [] (tt {0}) (ap not h)

pub shapely : (right : Bool) → right ≡ true → ladder (shaped right) (tt {0}) ≡ accepted (tt {0})
unfolding ladder
shapely right h = ladder_fails (not right) 7 0 [] (tt {0}) (ap not h)

module _ (g : List Rung) (s : Bool) where
  pub shape_wrong : ladder g (tt {0}) ≡ accepted (tt {0}) → s ≡ false → ladder (g ++ shaped s) (tt {0}) ≡ refused 7 0
  shape_wrong h f = ladder_pass g (shaped s) (tt {0}) (tt {0}) (tt {0}) h ∙ misshapen s f

  pub shape-right : ladder g (tt {0}) ≡ accepted (tt {0}) → s ≡ true → ladder (g ++ shaped s) (tt {0}) ≡ accepted (tt {0})
  shape-right h f = ladder_pass g (shaped s) (tt {0}) (tt {0}) (tt {0}) h ∙ shapely s f

  pub shape_accepted : ladder (g ++ shaped s) (tt {0}) ≡ accepted (tt {0}) → (ladder g (tt {0}) ≡ accepted (tt {0})) × (s ≡ true)
  shape_accepted h =
      let parts = ladder_parts g (shaped s) (tt {0}) (tt {0}) (tt {0}) h in
      let seven = ladder_clear (not s) 7 0 [] (tt {0}) (tt {0}) parts.1 in
      (parts.0, not-false s seven.0)

module _ (g : List Rung) (r s : Bool) where
  pub range_stop : (n p : ℕ) → ladder g (tt {0}) ≡ refused n p → ladder (g ++ (ranged r ++ shaped s)) (tt {0}) ≡ refused n p
  range_stop n p h = ladder_stop g (ranged r ++ shaped s) (tt {0}) (tt {0}) n p h

  passed : ladder g (tt {0}) ≡ accepted (tt {0}) → ladder (g ++ (ranged r ++ shaped s)) (tt {0}) ≡ ladder (ranged r ++ shaped s) (tt {0})
  passed h = ladder_pass g (ranged r ++ shaped s) (tt {0}) (tt {0}) (tt {0}) h

  pub range_missed : ladder g (tt {0}) ≡ accepted (tt {0}) → r ≡ false → ladder (g ++ (ranged r ++ shaped s)) (tt {0}) ≡ refused 6 0
  range_missed h e = passed h ∙ ladder_holds (not r) 6 0 (shaped s) (tt {0}) (ap not e)

  pub range_shape : ladder g (tt {0}) ≡ accepted (tt {0}) → r ≡ true → s ≡ false → ladder (g ++ (ranged r ++ shaped s)) (tt {0}) ≡ refused 7 0
  range_shape h e f = passed h ∙ ladder_fails (not r) 6 0 (shaped s) (tt {0}) (ap not e) ∙ misshapen s f

  pub range_pass : ladder g (tt {0}) ≡ accepted (tt {0}) → r ≡ true → s ≡ true → ladder (g ++ (ranged r ++ shaped s)) (tt {0}) ≡ accepted (tt {0})
  range_pass h e f = passed h ∙ ladder_fails (not r) 6 0 (shaped s) (tt {0}) (ap not e) ∙ shapely s f

  pub range_accepted : ladder (g ++ (ranged r ++ shaped s)) (tt {0}) ≡ accepted (tt {0})
      → (ladder g (tt {0}) ≡ accepted (tt {0})) × (r ≡ true) × (s ≡ true)
  range_accepted h =
      let parts = ladder_parts g (ranged r ++ shaped s) (tt {0}) (tt {0}) (tt {0}) h in
      let six = ladder_clear (not r) 6 0 (shaped s) (tt {0}) (tt {0}) parts.1 in
      let seven = ladder_clear (not s) 7 0 [] (tt {0}) (tt {0}) six.1 in
      (parts.0, not-false r six.0, not-false s seven.0)
