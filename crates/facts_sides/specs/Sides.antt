-- The facts of a sum or a product by the facts of its two sides: what the code computes. proofs/Steps.antt shows that they are those of the
-- tree.
--
--   width_by                     by the kind and the widths of the sides
--   size_by                     by the sizes of the sides
--   padded_by                   by the kind, and the padded bytes and the widths of the sides
--   least_by                    by the kind and the least lengths of the sides
use Rattle.std.specs.Prelude.{ℕ, max, min, cond, eqb}
use Rattle.meaning.specs.Types.{stop}

-- The width of a sum (kind 1) or a product.
abbrev pub width_by : ℕ → ℕ → ℕ → ℕ
width_by k a b = cond (eqb k 1) (stop 1 (max a b)) (stop a b)

-- The size of either.
abbrev pub size_by : ℕ → ℕ → ℕ
size_by a b = stop 1 (stop a b)

-- The padded byte of either, by the padded bytes p and q and the widths a and b of its sides.
abbrev pub padded_by : ℕ → ℕ → ℕ → ℕ → ℕ → ℕ
padded_by k p q a b = cond (eqb p 0) (cond (eqb q 0) (cond (eqb k 1) (cond (eqb a b) 0 1) 0) 1) 1

-- The least compact length of a sum or a product.
abbrev pub least_by : ℕ → ℕ → ℕ → ℕ
least_by k a b = cond (eqb k 1) (stop 1 (min a b)) (stop a b)
