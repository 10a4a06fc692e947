-- The marks of a word that grows: what was sent stays, and the next marks come after it.
use Rattle.std.proofs.Common.{◌≡◌, ℕ, zero, suc, ◌+◌, ◌*◌, ◌/◌, ◌%◌, ◌^◌, ◌<◌, ◌≤◌, Bool, List, [], ◌∷◌, ◌++◌, length, sym, refl, ap, ◌∙◌, subst, ap₂, add-zero, add-suc, add-one, arith}
use Rattle.std.proofs.lemmas.List.{append-nil, append_assoc, append_cancel_left, length-append, length_push}
use Rattle.convolution.specs.declared.encoder.Encoder.{Encoder}
use Rattle.convolution.specs.declared.rate.Rate.{Rate}
use Rattle.convolution.specs.Code.{Word, window, step_marks, marks_to}
use Rattle.convolution.specs.Encoding.{value, newest, sent, picked, MarkBits, KeptBits, After, Ran, Stepped}
use Rattle.convolution.proofs.Pattern.{step_marks_again}
use Rattle.convolution.proofs.Windows.{window-append, window_ahead, newest_ahead}
use Rattle.convolution.proofs.Writing.{picked-marks}

-- the first steps of a longer word give the same marks
pub marks_to-append : (rate : Rate) (w m : Word) (n : ℕ) → n ≤ length w → marks_to rate (w ++ m) n ≡ marks_to rate w n
unfolding marks_to
marks_to-append rate w m zero h = refl
marks_to-append rate w m (suc n) h = ap₂ ◌++◌ (marks_to-append rate w m n (omega arith)) (ap (step_marks rate n) (window-append w m n (omega arith)))

-- the marks picked in the first n steps
unfoldable pub rows : List ℕ → List ℕ → ℕ → List ℕ
rows ms ks zero = []
rows ms ks (suc i) = rows ms ks i ++ picked ms ks i

pub rows_more : (ms ks : List ℕ) (n : ℕ) (xs : List ℕ) {ys : List ℕ} → xs ≡ rows ms ks n → ys ≡ xs ++ picked ms ks n → ys ≡ rows ms ks (n + 1)
unfolding rows
rows_more ms ks n xs e r = r ∙ ap (λ (l : List ℕ). l ++ picked ms ks n) e ∙ ap (rows ms ks) (sym (add-one n))

module _ (rate : Rate) (w m : Word) (ms ks : List ℕ) (marked : MarkBits rate (newest w + 64 * value m) ms) (kept : KeptBits rate (length w % 6) ks) where
  step_picked : (n : ℕ) → n < 8 → step_marks rate (length w + n) (window (w ++ m) (length w + n)) ≡ picked ms ks n
  step_picked n h =
      ap (step_marks rate (length w + n)) (window_ahead w m n) ∙ step_marks_again rate (length w + n) (length w % 6 + n) _ (omega arith)
      ∙ sym (picked-marks rate (newest w + 64 * value m) (length w % 6) ms ks marked kept n h)

  sent-rows : (n : ℕ) → n ≤ 8 → marks_to rate (w ++ m) (length w + n) ≡ sent rate w ++ rows ms ks n
  unfolding marks_to sent rows
  sent-rows zero h = ap (marks_to rate (w ++ m)) (add-zero (length w)) ∙ marks_to-append rate w m (length w) (omega arith) ∙ sym (append-nil (sent rate w))
  sent-rows (suc n) h =
      ap (marks_to rate (w ++ m)) (add-suc (length w) n) ∙ ap₂ ◌++◌ (sent-rows n (omega arith)) (step_picked n (omega arith)) ∙ append_assoc (sent rate w) (rows ms ks n) (picked ms ks n)

-- what the encoder e holds after n more bits, and the marks of their steps
module _ {rate : Rate} {w : Word} {e : Encoder} (a : After rate w e) (m : Word) (b n : ℕ) (v : value m ≡ b) (l : length m ≡ n) where
  pub next_rows : (ms ks out : List ℕ) → n ≤ 8 → MarkBits e.rate (e.state + 64 * b) ms → KeptBits e.rate e.phase ks → out ≡ rows ms ks n → sent rate (w ++ m) ≡ sent rate w ++ out
  unfolding sent
  next_rows ms ks out h marked kept r =
      let x : e.state + 64 * b ≡ newest w + 64 * value m = ap₂ (λ (s c : ℕ). s + 64 * c) a.held (sym v) in
      ap (marks_to rate (w ++ m)) (length-append w m ∙ ap (λ (k : ℕ). length w + k) l)
      ∙ sent-rows rate w m ms ks (subst (λ (y : ℕ). MarkBits rate y ms) x (subst (λ (r : Rate). MarkBits r (e.state + 64 * b) ms) a.same marked))
      (subst (λ (p : ℕ). KeptBits rate p ks) a.turned (subst (λ (r : Rate). KeptBits r e.phase ks) a.same kept)) n h
      ∙ ap (λ (x : List ℕ). sent rate w ++ x) (sym r)

  pub next_held : (e.state + 64 * b) / 2 ^ n % 64 ≡ newest (w ++ m)
  next_held = ap₂ (λ (y k : ℕ). y / 2 ^ k % 64) (ap₂ (λ (s c : ℕ). s + 64 * c) a.held (sym v)) (sym l) ∙ sym (newest_ahead w m)

  pub next_turned : (e.phase + n) % 6 ≡ length (w ++ m) % 6
  next_turned = omega (arith, a.turned, length-append w m)

-- one bit is one step
pub ran_one : {rate : Rate} (w : Word) {b : Bool} {e : Encoder} {out : List ℕ} → Ran rate w (b ∷ []) e out → Stepped rate w b e out
unfolding sent marks_to
ran_one {rate} w {b} {e} {out} r =
    let whole : sent rate w ++ out ≡ sent rate w ++ step_marks rate (length w) (window (w ++ b ∷ []) (length w)) =
    sym r.written ∙ ap (marks_to rate (w ++ b ∷ [])) (length_push w b ∙ add-one (length w))
    ∙ ap (λ (l : List ℕ). l ++ step_marks rate (length w) (window (w ++ b ∷ []) (length w))) (marks_to-append rate w (b ∷ []) (length w) (omega arith)) in
    record { after = r.after; written = append_cancel_left (sent rate w) _ _ whole }
