-- The rungs 2 to 5 by number. Of a list of records and nodes the least number decides, so each of them is asked once.
--
--   first_rung                    the number of the first of the rungs 2 to 5 whose fact holds; 6 where none does
--   limit_answer                what a call answers then
--   node_limit record_limit     the number of a node that is named as a record type, and of a record
--   bounded_limit               of a record, by how many bytes it lies in
--   limits_of                   the least of them, of records and more nodes
--   earlier                     of two answers the refusal of the smaller number
use Rattle.std.specs.Prelude.{ℕ, zero, suc, ◌+◌, ◌*◌, min, cond, Bool, true, false, List, [], ◌∷◌, length, ltb, leb}
use Rattle.meaning.specs.Types.{bits, size}
use Rattle.meaning.specs.Tables.{Table}
use Rattle.meaning.specs.Ladder.{Answer, refused, accepted, Record, type_at}

-- The number of the first of the rungs 2 to 5 whose fact holds, or 6.
abbrev pub first_rung : Bool → Bool → Bool → Bool → ℕ
first_rung true w l p = 2
first_rung false true l p = 3
first_rung false false true p = 4
first_rung false false false true = 5
first_rung false false false false = 6

-- A refusal with that number; 6 is none.
abbrev pub limit_answer : ℕ → Answer (Unit {0})
limit_answer zero = accepted tt
limit_answer (suc zero) = accepted tt
limit_answer (suc (suc zero)) = refused 2 0
limit_answer (suc (suc (suc zero))) = refused 3 0
limit_answer (suc (suc (suc (suc zero)))) = refused 4 0
limit_answer (suc (suc (suc (suc (suc zero))))) = refused 5 0
limit_answer (suc (suc (suc (suc (suc (suc n)))))) = accepted tt

-- Of a node that is named as a record type.
abbrev pub node_limit : Table → ℕ → ℕ
node_limit t n = first_rung (leb t.count n) (ltb 524288 (bits (type_at t n))) (ltb 2097152 (size (type_at t n))) false

-- Of a record, by how many bytes it lies in.
abbrev pub bounded_limit : Table → ℕ → ℕ → ℕ → ℕ
bounded_limit t len offset n =
    first_rung (leb t.count n) (ltb 524288 (bits (type_at t n))) (ltb 2097152 (size (type_at t n)))
    (ltb (8 * len) (offset + bits (type_at t n)))

abbrev pub record_limit : Table → Record → ℕ
record_limit t r = bounded_limit t (length r.bytes) r.offset r.node

-- Of records and more nodes.
abbrev pub limits_of : Table → List Record → List ℕ → ℕ
limits_of t [] [] = 6
limits_of t [] (n ∷ ns) = min (node_limit t n) (limits_of t [] ns)
limits_of t (r ∷ rs) ns = min (record_limit t r) (limits_of t rs ns)

-- Of two answers the refusal of the smaller number, if there is one.
abbrev pub earlier : Answer (Unit {0}) → Answer (Unit {0}) → Answer (Unit {0})
earlier (accepted u) b = b
earlier (refused n p) (accepted u) = refused n p
earlier (refused n p) (refused m q) = cond (ltb m n) (refused m q) (refused n p)
