-- The encoder over the bytes of a body and the tail: where it stands, what it has sent, and that its marks fit.
use Rattle.std.proofs.Common.{◌≡◌, ℕ, ◌+◌, ◌*◌, ◌<◌, ◌≤◌, List, [], ◌++◌, length, get_or, take, sym, refl, ap, ◌∙◌, subst, arith}
use Rattle.std.proofs.lemmas.List.{length-append, length-take-le, take_more, take_all, get_or-append-add}
use Rattle.convolution.specs.declared.encoder.Encoder.{Encoder}
use Rattle.convolution.specs.declared.rate.Rate.{Rate}
use Rattle.convolution.specs.Code.{Word, bits, zeros, all_bits, marks, marks_before}
use Rattle.convolution.specs.Encoding.{After, Ran, sent}
use Rattle.line.specs.Line.{dear}
use Rattle.line.specs.Costing.{dear_le}
use Rattle.convolution.proofs.Body.{all_bits_push, length-all_bits, sent_none, sent_byte, sent_tail, length-sent, ran_count, marks_to_small}
use Rattle.convolution.proofs.Pattern.{marks_before_mono}

-- the bits of the first k bytes
abbrev pub front : List ℕ → ℕ → Word
front body k = all_bits (take k body)

pub length_front : (body : List ℕ) (k : ℕ) → k ≤ length body → length (front body k) ≡ 8 * k
length_front body k h = length-all_bits (take k body) ∙ ap (λ n. 8 * n) (length-take-le k body h)

pub front_all : (body : List ℕ) (k : ℕ) → length body ≤ k → front body k ≡ all_bits body
front_all body k h = ap all_bits (take_all k body h)

-- nothing is sent before the first byte
pub sent-front_none : (rate : Rate) (body : List ℕ) → sent rate (front body 0) ≡ []
unfolding all_bits
sent-front_none rate body = sent_none rate

module _ {rate : Rate} {w m : Word} {e : Encoder} {out : List ℕ} (r : Ran rate w m e out) where
  -- the marks of a run are within those of all steps
  pub run_room : (steps size : ℕ) → length w + length m ≤ steps → marks_before rate steps ≤ size → length (sent rate w) + length out ≤ size
  run_room steps size l room =
      omega (arith, length-sent rate w, ran_count r, marks_before_mono rate (length (w ++ m)) steps (omega (arith, length-append w m)))

  -- and are 0 or 1
  pub run_small : (k : ℕ) → get_or out k 0 < 2
  unfolding sent
  run_small k =
      let e : get_or (sent rate (w ++ m)) (length (sent rate w) + k) 0 ≡ get_or out k 0 =
      ap (λ (l : List ℕ). get_or l (length (sent rate w) + k) 0) r.written ∙ get_or-append-add (sent rate w) out k 0 in
      omega (arith, marks_to_small rate (w ++ m) (length (w ++ m)) (length (sent rate w) + k))

-- the marks that a slice shows are those of the run
pub ran_shown : {rate : Rate} {w m : Word} {e : Encoder} {out shown : List ℕ} → shown ≡ out → Ran rate w m e out → Ran rate w m e shown
ran_shown {rate} {w} {m} {e} same r = subst (Ran rate w m e) (sym same) r

-- the encoder before the first byte
pub after_none : {rate : Rate} {e : Encoder} (body : List ℕ) → After rate [] e → After e.rate (front body 0) e
unfolding all_bits
after_none body a = record { same = refl; held = a.held; turned = a.turned }

module _ {rate : Rate} {e : Encoder} {out : List ℕ} (body : List ℕ) (k : ℕ) where
  -- one byte more
  pub after_more : k < length body → Ran rate (front body k) (bits (get_or body k 0)) e out → After rate (front body (k + 1)) e
  after_more h r = subst (λ (w : Word). After rate w e) (sym (ap all_bits (take_more body k 0 h) ∙ all_bits_push (take k body) (get_or body k 0))) r.after

  pub sent_more : k < length body → Ran rate (front body k) (bits (get_or body k 0)) e out → sent rate (front body k) ++ out ≡ sent rate (front body (k + 1))
  sent_more h r = sent_byte rate body k 0 (sent rate (front body k)) out h refl r.written

  pub byte_length : k < length body → Ran rate (front body k) (bits (get_or body k 0)) e out → length (sent rate (front body k)) + length out ≡ length (sent rate (front body (k + 1)))
  byte_length h r = omega (arith, length-append (sent rate (front body k)) out, ap length (sent_more h r))

  pub byte_room : {own : Rate} (size : ℕ) → rate ≡ own → k < length body → marks_before own (8 * length body + 6) ≤ size → Ran rate (front body k) (bits (get_or body k 0)) e out → length (sent rate (front body k)) + length out ≤ size
  unfolding bits
  byte_room size same h room r =
      run_room r (8 * length body + 6) size (omega (arith, length_front body k (omega arith))) (subst (λ p. marks_before p (8 * length body + 6) ≤ size) (sym same) room)

  -- the tail after the last byte
  pub tail_room : {own : Rate} (size : ℕ) → rate ≡ own → k ≤ length body → marks_before own (8 * length body + 6) ≤ size → Ran rate (front body k) (zeros 6) e out → length (sent rate (front body k)) + length out ≤ size
  tail_room size same h room r =
      run_room r (8 * length body + 6) size (omega (arith, length_front body k h)) (subst (λ p. marks_before p (8 * length body + 6) ≤ size) (sym same) room)

  pub sent_last : {own : Rate} → rate ≡ own → length body ≤ k → Ran rate (front body k) (zeros 6) e out → sent rate (front body k) ++ out ≡ marks own (all_bits body)
  sent_last same h r =
      sent_tail rate (front body k) (sent rate (front body k)) out refl r.written ∙ ap (marks rate) (front_all body k h) ∙ ap (λ p. marks p (all_bits body)) same

-- no more marks cost more than 0 than there are
pub dear_room : (price : ℕ → ℕ → ℕ) (sent shown : List ℕ) (i total n size : ℕ) → total ≡ dear price 0 sent → n ≡ dear price i shown → length sent + length shown ≤ size → total + n ≤ size
dear_room price sent shown i total n size e f h = omega (arith, dear_le price 0 sent, dear_le price i shown)
