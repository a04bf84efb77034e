-- Two readings of one type into one output; `read` decodes.
--
--   outside                     a stream's length runs past its bytes, or its position past that length: 5
--   AgreeStream                 two streams, both outside or neither, with the same bits from the position to the length
--   streams_agree               two streams that fit agree where these bits are the same
--   accepted_own                an accepted reading depends on the bits that it consumed alone: answer, counted from the position, and output.
--                               The rungs of the streams are `gs` and `gs'`; `gs'` lets the second pass, and `ms` are those that follow
--   stream_own                  1 to 5 of a reader are the same of streams that agree
--   refused_own                 a refusal of the one, 1 to 9, is the refusal of the other, and its output stays as it was
-- Assumes nothing.
use Prim.Native.Nat.{ℕ, ◌+◌, ◌*◌, ◌-◌, ◌≤◌}
use mathlib.Core.Path.{◌≡◌, refl, sym, ap, ap₂, ◌∙◌}
use mathlib.Core.Bool.{Bool, false, ◌||◌, true≢false}
use mathlib.Core.List.{List, [], ◌∷◌, ◌++◌, append-nil}
use native.Mathlib.Omega.{arith}
use lib.Dec.{ltb}
use lib.ListN.{length, take}
use Rattle.meaning.specs.Tables.{Table}
use Rattle.meaning.specs.Bits.{written}
use Rattle.meaning.specs.Codecs.{Decoded, early, decoded, is_early, decoded_record, consumed}
use Rattle.meaning.specs.Ladder.{Answer, refused, accepted, Rung, rung, ladder, Stream, rest_of, named, room_for}
use Rattle.meaning.specs.CodecCalls.{reads, read_out, read_rungs}
use Rattle.meaning.proofs.Ladders.{ladder_parts, ladder_pass, ladder_stop, kept_refused}
use Rattle.checked.proofs.Passes.{stream-fits}
use Rattle.checked.proofs.Read.{done, accepts}

-- A stream's length runs past its bytes, or its position past that length.
abbrev pub outside : Stream → Bool
outside s = ltb (8 * length s.bytes) s.until || ltb s.until s.position

-- Two streams, wherever they lie.
pub record AgreeStream (s s' : Stream) : Type 0 where
  pub outsides : outside s ≡ outside s'
  pub rests : rest_of s ≡ rest_of s'

pub streams_agree : (s s' : Stream) → s.until ≤ 8 * length s.bytes → s.position ≤ s.until → s'.until ≤ 8 * length s'.bytes
    → s'.position ≤ s'.until
    → rest_of s ≡ rest_of s'
    → AgreeStream s s'
streams_agree s s' h k h' k' e = record { outsides = stream-fits s h k ∙ sym (stream-fits s' h' k'); rests = e }

-- The first rungs let the second stream pass.
module _ (read : List Bool → Decoded) (gs gs' ms : List Rung) (s s' : Stream) (out : List ℕ)
    (clear : ladder gs' (tt {0}) ≡ accepted (tt {0})) where
  abbrev d : Decoded
  d = read (rest_of s)

  abbrev d' : Decoded
  d' = read (rest_of s')

  pub accepted_own : ((b b' v : List Bool) (n : ℕ) → read b ≡ decoded v n → take n b' ≡ take n b → read b' ≡ decoded v n)
      → (next : ℕ) → reads (gs ++ ms) s (read (rest_of s)) out ≡ accepted next
      → take (next - s.position) (rest_of s') ≡ take (next - s.position) (rest_of s)
      → (reads (gs' ++ ms) s' (read (rest_of s')) out ≡ accepted (s'.position + (next - s.position)))
      × (read_out (gs' ++ ms) s' (read (rest_of s')) out ≡ read_out (gs ++ ms) s (read (rest_of s)) out)
  accepted_own law next h e =
      let f = accepts (gs ++ ms) s d out next h in
      let n : consumed d ≡ next - s.position = omega (arith, f.ends) in
      let same : d' ≡ d = by_reading d refl f.whole n in
      let r : decoded_record d' ≡ decoded_record d = ap decoded_record same in
      let passes : ladder (gs' ++ ms) (tt {0}) ≡ accepted (tt {0}) =
      ladder_pass gs' ms (tt {0}) (tt {0}) (tt {0}) clear ∙ (ladder_parts gs ms (tt {0}) (tt {0}) (tt {0}) f.clear).1 in
      let got =
      done (gs' ++ ms) s' d' out passes (ap is_early same ∙ f.whole) (omega (arith, f.roomy, ap length r)) (s'.position + (next - s.position))
      (ap (λ (k : ℕ). s'.position + k) (sym n ∙ sym (ap consumed same)))
      (written (decoded_record d') out)
      refl in
      (sym got.0, sym got.1 ∙ ap (λ (v : List Bool). written v out) r ∙ sym f.output)
    where
      by_reading : (x : Decoded) → d ≡ x → is_early x ≡ false → consumed x ≡ next - s.position → d' ≡ x
      by_reading early g w n = absurd (true≢false w)
      by_reading (decoded v k) g w n =
          law (rest_of s) (rest_of s') v k g (ap (λ (i : ℕ). take i (rest_of s')) n ∙ e ∙ ap (λ (i : ℕ). take i (rest_of s)) (sym n))

-- 1 to 5 of a reader of two streams that agree.
pub stream_own : (t : Table) (s s' : Stream) (node : ℕ) → AgreeStream s s' → read_rungs t s node ≡ read_rungs t s' node
stream_own t s s' node g = ap (λ (b : Bool). named t (node ∷ []) ++ (rung b 5 0 ∷ [])) g.outsides

-- The rungs before 8 are the same of both; so are 8 and 9, since the streams that are read hold the same bits.
pub refused_own : (read : List Bool → Decoded) (gs gs' : List Rung) (s s' : Stream) (out : List ℕ) → gs ≡ gs' → AgreeStream s s'
    → (n p : ℕ) → reads gs s (read (rest_of s)) out ≡ refused n p
    → (reads gs' s' (read (rest_of s')) out ≡ refused n p) × (read_out gs' s' (read (rest_of s')) out ≡ out)
refused_own read gs gs' s s' out e g n p h =
    let d = read (rest_of s) in
    let d' = read (rest_of s') in
    let next = s.position + consumed d in
    let next' = s'.position + consumed d' in
    let all : List Rung = gs ++ (rung (is_early d) 8 0 ∷ room_for (decoded_record d) out) in
    let by : List Rung → List Bool → Answer ℕ = λ rs v. ladder (rs ++ (rung (is_early (read v)) 8 0 ∷ room_for (decoded_record (read v)) out)) next' in
    let c : reads gs' s' d' out ≡ refused n p =
    ap₂ by (sym e) (sym g.rests)
    ∙ ap (λ (rs : List Rung). ladder rs next') (sym (append-nil all))
    ∙ ladder_stop all [] next next' n p h in
    (c, kept_refused (reads gs' s' d' out) n p out (written (decoded_record d') out) c)
