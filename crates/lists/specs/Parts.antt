-- What the parts of a list are.
--
--   number_of       the number that bytes make
--   IsNumber        a number as it stands in a list
--   LacksNumber     a list that does not start with a whole number
--   IsRun           a run as it stands in a list
--   LacksRun        a list that does not start with a whole run
--   EndsWith        what is left of a list
--   HasPart         what stands in a list
use Rattle.std.specs.Prelude.{◌≡◌, ℕ, ◌+◌, ◌*◌, ◌<◌, ◌≤◌, ◌⊎◌, List, ◌∷◌, ◌++◌, fold, length, slice_index}

-- The number that bytes make, the highest first.
abbrev pub number_of : List ℕ → ℕ
number_of bytes = fold (λ number byte. number * 256 + byte) 0 bytes

-- A list is a number and then the rest: how many bytes the number takes, these, and the rest.
abbrev pub IsNumber : List ℕ → ℕ → List ℕ → Type 0
IsNumber list number rest = (bytes : List ℕ) × (list ≡ length bytes ∷ bytes ++ rest) × (number ≡ number_of bytes)

-- There is no number of more than eight bytes, and none of more than the list has.
abbrev pub LacksNumber : List ℕ → Type 0
LacksNumber list = (8 < slice_index list 0) ⊎ (length list ≤ slice_index list 0)

-- A list is a run and then the rest: the run's length as a number, its bytes, and the rest.
abbrev pub IsRun : List ℕ → List ℕ → List ℕ → Type 0
IsRun list run rest = IsNumber list (length run) (run ++ rest)

-- There is no run without its length, and none of more than the list has.
abbrev pub LacksRun : List ℕ → Type 0
LacksRun list = LacksNumber list ⊎ ((count : ℕ) × (rest : List ℕ) × IsNumber list count rest × (length rest < count))

-- A list is some front and then the rest.
pub record EndsWith (list rest : List ℕ) : Type 0 where
  pub front : List ℕ
  pub whole : list ≡ front ++ rest

-- A part of a list, with what stands before and after it.
pub record HasPart (list part : List ℕ) : Type 0 where
  pub before : List ℕ
  pub after : List ℕ
  pub whole : list ≡ before ++ (part ++ after)
