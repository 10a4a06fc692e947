-- The marks of a body, byte after byte and then the tail.
use Rattle.std.proofs.Common.{◌≡◌, ℕ, zero, suc, ◌+◌, ◌*◌, ◌<◌, Bool, true, false, cond, List, [], ◌∷◌, ◌++◌, length, get_or, take, sym, refl, ap, ◌∙◌, arith}
use Rattle.std.proofs.lemmas.List.{append-nil, append_assoc, length-append, take_more}
use Rattle.convolution.specs.declared.encoder.Encoder.{Encoder}
use Rattle.convolution.specs.declared.rate.Rate.{Rate}
use Rattle.convolution.specs.Code.{Word, bits, mark, generators, keeps, kept_from, all_bits, fed, zeros, window, step_marks, marks_to, marks, marks_before}
use Rattle.convolution.specs.Encoding.{sent, Ran}
use Rattle.convolution.proofs.Pattern.{length-marks_to}

pub all_bits_push : (bs : List ℕ) (b : ℕ) → all_bits (bs ++ b ∷ []) ≡ all_bits bs ++ bits b
unfolding all_bits
all_bits_push [] b = append-nil (bits b)
all_bits_push (c ∷ bs) b = ap (λ (w : Word). bits c ++ w) (all_bits_push bs b) ∙ sym (append_assoc (bits c) (all_bits bs) (bits b))

pub length-all_bits : (bs : List ℕ) → length (all_bits bs) ≡ 8 * length bs
unfolding all_bits bits
length-all_bits [] = refl
length-all_bits (b ∷ bs) = omega (arith, length-all_bits bs)

-- nothing is sent before the first bit
pub sent_none : (rate : Rate) → sent rate [] ≡ []
unfolding sent marks_to
sent_none rate = refl

-- the marks of data bits are those of the bits and six zeros
pub sent-fed : (rate : Rate) (w : Word) → sent rate (fed w) ≡ marks rate w
unfolding sent marks
sent-fed rate w = ap (marks_to rate (fed w)) (length-append w (zeros 6))

pub length-sent : (rate : Rate) (w : Word) → length (sent rate w) ≡ marks_before rate (length w)
unfolding sent
length-sent rate w = length-marks_to rate w (length w)

-- the number of marks of a run
pub ran_count : {rate : Rate} {w m : Word} {e : Encoder} {out : List ℕ} → Ran rate w m e out → marks_before rate (length (w ++ m)) ≡ marks_before rate (length w) + length out
ran_count {rate} {w} {m} {e} {out} r =
    sym (length-sent rate (w ++ m)) ∙ ap length r.written ∙ length-append (sent rate w) out ∙ ap (λ n. n + length out) (length-sent rate w)

-- one byte more
pub sent_byte : (rate : Rate) (body : List ℕ) (k d : ℕ) (out ms : List ℕ) → k < length body → out ≡ sent rate (all_bits (take k body))
    → sent rate (all_bits (take k body) ++ bits (get_or body k d)) ≡ sent rate (all_bits (take k body)) ++ ms → out ++ ms ≡ sent rate (all_bits (take (k + 1) body))
sent_byte rate body k d out ms h e r =
    ap (λ (l : List ℕ). l ++ ms) e ∙ sym r ∙ ap (sent rate) (sym (ap all_bits (take_more body k d h) ∙ all_bits_push (take k body) (get_or body k d)))

-- the tail after all bits
pub sent_tail : (rate : Rate) (w : Word) (out ms : List ℕ) → out ≡ sent rate w → sent rate (w ++ zeros 6) ≡ sent rate w ++ ms → out ++ ms ≡ marks rate w
sent_tail rate w out ms e r = ap (λ (l : List ℕ). l ++ ms) e ∙ sym r ∙ sent-fed rate w

-- every mark is 0 or 1

Small : List ℕ → Type 0
Small xs = (k : ℕ) → get_or xs k 0 < 2

small_append : (xs ys : List ℕ) → Small xs → Small ys → Small (xs ++ ys)
unfolding Small
small_append [] ys h l k = l k
small_append (x ∷ xs) ys h l zero = h zero
small_append (x ∷ xs) ys h l (suc k) = small_append xs ys (λ j. h (suc j)) l k

kept_small : (rate : Rate) (t v g : ℕ) (ms : List ℕ) → Small (kept_from rate t v g ms)
unfolding Small kept_from
kept_small rate t v g [] k = omega arith
kept_small rate t v g (m ∷ ms) k = go (keeps rate t g) (kept_small rate t v (suc g) ms) k
  where
    go : (b : Bool) → Small (kept_from rate t v (suc g) ms) → Small (cond b (mark m v ∷ kept_from rate t v (suc g) ms) (kept_from rate t v (suc g) ms))
    go true h zero = omega arith
    go true h (suc k) = h k
    go false h k = h k

pub marks_to_small : (rate : Rate) (w : Word) (n k : ℕ) → get_or (marks_to rate w n) k 0 < 2
unfolding Small marks_to step_marks
marks_to_small rate w zero k = omega arith
marks_to_small rate w (suc t) k = small_append (marks_to rate w t) (step_marks rate t (window w t)) (marks_to_small rate w t) (kept_small rate t (window w t) 0 (generators rate)) k

pub marks_small : (rate : Rate) (w : Word) (k : ℕ) → get_or (marks rate w) k 0 < 2
unfolding marks
marks_small rate w k = marks_to_small rate (fed w) (length w + 6) k
