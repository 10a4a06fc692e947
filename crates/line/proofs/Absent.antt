-- Where nothing was read all words cost nothing, and the least is the word of zeros.
use Rattle.std.proofs.Common.{◌≡◌, ℕ, zero, suc, ◌+◌, ◌<◌, Bool, true, false, List, [], ◌∷◌, length, get_or, replicate, None, Ok, Option, sym, refl, ap, ◌∙◌, inl, inr, arith}
use Rattle.std.proofs.lemmas.List.{get_or_at, get_or-replicate, length-append, length-replicate}
use Rattle.convolution.specs.declared.rate.Rate.{Rate}
use Rattle.convolution.specs.declared.rate.Rate.TheVariants.{Half}
use Rattle.convolution.specs.Code.{Word, bit, zeros, marks}
use Rattle.convolution.specs.Cost.{total_cost, least, Least, LowerLast}
use Rattle.convolution.proofs.InTime.{least_first}
use Rattle.permutation.specs.Arrange.{picked, restored}
use Rattle.readings.specs.Helix.{helix, wound}
use Rattle.readings.specs.Readings.{by_mark, hard_cost, clean_hard}
use Rattle.line.specs.Line.{price_of, prices, byte_of, bytes_of, dear, chosen, lining}
use Rattle.line.specs.Costing.{cost_free, dear-free}

-- no word is before the word of zeros by a bit
not_lower : (n : ℕ) (a : Word) → LowerLast a (zeros n) → ⊥
not_lower n a (x, y, c, p, q) =
    let size : length y < n = omega (arith, length-append y (true ∷ c), ap length q, length-replicate n false) in
    let clash : true ≡ false = sym (get_or_at y true c false (length y) refl) ∙ ap (λ (w : Word). get_or w (length y) false) (sym q) ∙ get_or-replicate n (length y) false false size in
    let no : ◌≡◌ {A = ℕ} 1 0 = ap bit clash in
    omega arith

-- where no mark costs anything the least word is all zeros
pub least-free : (rate : Rate) (price : ℕ → ℕ → ℕ) (n : ℕ) → ((i m : ℕ) → price i m ≡ 0) → least rate price n ≡ zeros n
unfolding total_cost
least-free rate price n free =
    let first : Least rate price n (least rate price n) = least_first rate price n in
    let none : (w : Word) → total_cost rate price w ≡ 0 = λ w. cost_free price 0 (marks rate w) (λ k l. free (0 + k) (get_or (marks rate w) k 0)) in
    elim (first.first (zeros n) (length-replicate n false)) [
      | inl l ↦ absurd (omega (arith, none (zeros n)))
      | inr (e, inl same) ↦ same
      | inr (e, inr lower) ↦ absurd (not_lower n (least rate price n) lower)
    ]

absent_price : (n i m : ℕ) → price_of hard_cost (replicate n None) i m ≡ 0
unfolding price_of hard_cost by_mark
absent_price zero i m = refl
absent_price (suc n) zero zero = refl
absent_price (suc n) zero (suc m) = refl
absent_price (suc n) (suc i) m = absent_price n i m

absent_restored : restored {T = Option Bool} (helix 4 7) (replicate 28 None) ≡ replicate 28 None
unfolding restored picked wound
absent_restored = refl

pub absent_read : (lining hard_cost clean_hard Half 4 7 1).got (replicate 28 None) ≡ Ok (record { body = 0x00 ∷ []; counts = record { symbols = 0; bytes = 0 } })
unfolding chosen bytes_of byte_of
absent_read =
    let price : ℕ → ℕ → ℕ = prices hard_cost 4 7 (replicate 28 None) in
    let free : (i m : ℕ) → price i m ≡ 0 = λ i m. ap (λ (rs : List (Option Bool)). price_of hard_cost rs i m) absent_restored ∙ absent_price 28 i m in
    let body : bytes_of 1 (least Half price 8) ≡ 0 ∷ [] = ap (bytes_of 1) (least-free Half price 8 free) in
    let none : dear price 0 (marks Half (least Half price 8)) ≡ 0 = dear-free price 0 (marks Half (least Half price 8)) (λ k l. free (0 + k) (get_or (marks Half (least Half price 8)) k 0)) in
    λ i. Ok (record { body = body i; counts = record { symbols = none i; bytes = 0 } })
