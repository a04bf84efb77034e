-- Laws of decimal numbers.
--
--   digits_enough               more digits than a number has make no difference
--   decimal_one decimal_more    a number below ten is one digit; of any other the last digit follows those of its tenth part
--   decimal_is                  a number is printed as std prints it
--   decimal_length              a number has at most twenty digits
--   number_room byte_room kind_room
--                               the bytes that a number, a byte and the word of a kind take with what follows them; `rooms` are all three
-- Assumes nothing.
use Rattle.std.proofs.Common.{◌≡◌, ℕ, zero, suc, ◌/◌, ◌%◌, ◌^◌, ◌≤◌, ◌<◌, Bool, true, false, List, [], ◌∷◌, ◌++◌, length, ap, sym, ◌∙◌, ⊎_elim, zero-le, cond, ltb, rules, arith, length-append}
use Rattle.std.specs.Fmt as std
use Rattle.std.proofs.lemmas.Fmt.{AppendsLastDigit, decimal_from_appends, length-decimal-le}
use native.Mathlib.Nat.{pow-suc}
use borrow.Author.Tests.{ltb-true, ltb-false, lt-ltb, le-ltb}
use Rattle.meaning.proofs.Choices.{either}
use Rattle.lines_digits.specs.Report.{ascii, digits, decimal, digit_of, kind_word}

appends_digits : AppendsLastDigit digits
unfolding digits
appends_digits = record { one = λ k n h. rw (lt-ltb n 10 h); more = λ k n h. rw (le-ltb n 10 h) }

digits_one : (k n : ℕ) → n < 10 → digits (suc k) n ≡ digit_of n ∷ []
digits_one k n h = appends_digits.one k n h

digits_more : (k n : ℕ) → 10 ≤ n → digits (suc k) n ≡ digits k (n / 10) ++ (digit_of (n % 10) ∷ [])
digits_more k n h = appends_digits.more k n h

tenth : (k n : ℕ) → n < 10 ^ suc (suc k) → n / 10 < 10 ^ suc k
tenth k n h = let e = pow-suc 10 (suc k) in omega arith

pub digits_enough : (k n : ℕ) → n < 10 ^ suc k → digits (suc k) n ≡ digits (suc (suc k)) n
digits_enough zero n h = digits_one zero n h ∙ sym (digits_one 1 n h)
digits_enough (suc k) n h =
    ⊎_elim
    (λ t. let s : n < 10 = ltb-true n 10 t in digits_one (suc k) n s ∙ sym (digits_one (suc (suc k)) n s))
    (λ t. let s : 10 ≤ n = ltb-false n 10 t in
    digits_more (suc k) n s
    ∙ ap (λ d. d ++ (digit_of (n % 10) ∷ [])) (digits_enough k (n / 10) (tenth k n h))
    ∙ sym (digits_more (suc (suc k)) n s))
    (either (ltb n 10))

pub decimal_one : (n : ℕ) → n < 10 → decimal n ≡ digit_of n ∷ []
decimal_one n h = digits_one 19 n h

pub decimal_more : (n : ℕ) → 10 ≤ n → n < 2 ^ 64 → decimal n ≡ decimal (n / 10) ++ (digit_of (n % 10) ∷ [])
decimal_more n h w =
    digits_more 19 n h ∙ ap (λ d. d ++ (digit_of (n % 10) ∷ [])) (digits_enough 18 (n / 10) (omega arith))

pub decimal_is : (n : ℕ) → n < 2 ^ 64 → decimal n ≡ std.decimal n
decimal_is n h = decimal_from_appends digits appends_digits 20 n h (search (rules, length-decimal-le 20))

digits_length : (k n : ℕ) → length (digits k n) ≤ k
unfolding digits
digits_length zero n = zero-le
digits_length (suc k) n = by_test (ltb n 10) (digits k (n / 10)) (digits_length k (n / 10))
  where
    by_test : (b : Bool) (d : List ℕ) → length d ≤ k → length (cond b (digit_of n ∷ []) (d ++ (digit_of (n % 10) ∷ []))) ≤ suc k
    by_test true d h = omega arith
    by_test false d h = omega (arith, length-append d (digit_of (n % 10) ∷ []))

pub decimal_length : (n : ℕ) → length (decimal n) ≤ 20
decimal_length n = digits_length 20 n

-- A number and the byte that follows it take at most 21 bytes.
pub number_room : (n stop : ℕ) → length (decimal n ++ (stop ∷ [])) ≤ 21
number_room n stop = let d = decimal_length n in omega (arith, length-append (decimal n) (stop ∷ []))

-- The word of a kind and a space take at most 8.
pub kind_room : (k : ℕ) → length (kind_word k ++ ascii " ") ≤ 8
kind_room zero = omega arith
kind_room (suc zero) = omega arith
kind_room (suc (suc k)) = omega arith

-- A number that is a byte takes at most 4 with what follows it.
pub byte_room : (n stop : ℕ) → n < 256 → length (decimal n ++ (stop ∷ [])) ≤ 4
byte_room n stop h =
    let w : n < 2 ^ 64 = omega arith in
    let d : length (std.decimal n) ≤ 3 = search (rules, length-decimal-le 3) in
    omega (arith, length-append (decimal n) (stop ∷ []), ap length (decimal_is n w))

-- The room that each part of a line takes.
pub ruleset rooms = (number_room, kind_room, byte_room)
