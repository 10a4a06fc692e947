-- The line keeps the carrier rule.
use Rattle.std.specs.Prelude.{◌≡◌, ℕ, zero, suc, ◌+◌, ◌-◌, ◌*◌, ◌<◌, ◌≤◌, List, ◌++◌, map, length, take, drop, replicate, Ok, slice_index, refl}
use Rattle.std.proofs.Common.{inl, inr, sym, ap₂, ◌∙◌, zero-add, arith}
use Rattle.std.proofs.Math.Path.{ap}
use Rattle.std.proofs.lemmas.List.{map-append, length-map, take-map, drop-map, get_or-map, get_or_append_left, ext_get_or}
use Rattle.convolution.specs.declared.rate.Rate.{Rate}
use Rattle.convolution.specs.Code.{Word, all_bits, marks, marks_before}
use Rattle.convolution.specs.Cost.{total_cost, least, Least}
use Rattle.convolution.proofs.Body.{length-all_bits, marks_small}
use Rattle.convolution.proofs.Distinct.{marks_one_to_one}
use Rattle.convolution.proofs.InTime.{least_first}
use Rattle.convolution.proofs.Pattern.{length-marks, steps_marks}
use Rattle.permutation.specs.Arrange.{picked, restored}
use Rattle.permutation.proofs.Permuting.{length-arranged, restored-arranged}
use Rattle.readings.specs.Helix.{helix}
use Rattle.readings.specs.Winding.{helix_rearranges}
use Rattle.stack.specs.Buffers.{Bytes, padded}
use Rattle.stack.specs.Rules.{CarrierRule}
use Rattle.stack.specs.Bodies.{length-padded}
use Rattle.line.specs.Line.{price_of, bytes_of, dear, spread, block, prices, chosen, lining}
use Rattle.line.specs.Costing.{Free, price-at, cost_free, dear-free, free_cost, dear_le}
use Rattle.line.specs.Octets.{bytes_of_all, length-bytes_of}

picked-map : {S T : Type 0} (g : S → T) (f : ℕ → ℕ) (n : ℕ) (xs : List S) → picked f n (map g xs) ≡ map g (picked f n xs)
unfolding picked
picked-map g f zero xs = refl
picked-map g f (suc n) xs =
    ap₂ ◌++◌ (picked-map g f n xs) (ap (take 1) (drop-map g (f n) xs) ∙ take-map g 1 (drop (f n) xs)) ∙ sym (map-append g (picked f n xs) (take 1 (drop (f n) xs)))

-- marks that cost nothing where every other mark costs something are the marks that were sent
marks-told : (price : ℕ → ℕ → ℕ) (xs ys : List ℕ) → length ys ≡ length xs → ((k : ℕ) → slice_index xs k < 2) → ((k : ℕ) → slice_index ys k < 2)
    → ((k : ℕ) → k < length xs → 1 ≤ price k (1 - slice_index xs k)) → Free price 0 ys → ys ≡ xs
marks-told price xs ys l small little other free = ext_get_or 0 ys xs l (λ k h. same k h (slice_index xs k) (slice_index ys k) (small k) (little k) (other k (omega arith)) (ap (λ j. price j (slice_index ys k)) (sym (zero-add k)) ∙ free k h))
  where
    same : (k : ℕ) → k < length ys → (x y : ℕ) → x < 2 → y < 2 → 1 ≤ price k (1 - x) → price k y ≡ 0 → y ≡ x
    same k h zero zero p q o e = refl
    same k h zero (suc zero) p q o e = absurd (omega arith)
    same k h (suc zero) zero p q o e = absurd (omega arith)
    same k h (suc zero) (suc zero) p q o e = refl
    same k h (suc (suc x)) y p q o e = absurd (omega arith)
    same k h zero (suc (suc y)) p q o e = absurd (omega arith)
    same k h (suc zero) (suc (suc y)) p q o e = absurd (omega arith)

-- the least word at such prices is the word that was sent
least-told : (rate : Rate) (price : ℕ → ℕ → ℕ) (w : Word) → Free price 0 (marks rate w) → ((k : ℕ) → k < length (marks rate w) → 1 ≤ price k (1 - slice_index (marks rate w) k)) → least rate price (length w) ≡ w
unfolding total_cost
least-told rate price w free other =
    let v : Word = least rate price (length w) in
    let first : Least rate price (length w) v = least_first rate price (length w) in
    let none : total_cost rate price w ≡ 0 = cost_free price 0 (marks rate w) free in
    let least-none : total_cost rate price v ≡ 0 = elim (first.first w refl) [ inl l ↦ absurd (omega arith) | inr (e, _) ↦ e ∙ none ] in
    let long : length (marks rate v) ≡ length (marks rate w) = length-marks rate v ∙ ap (λ n. marks_before rate (n + 6)) first.long ∙ sym (length-marks rate w) in
    marks_one_to_one rate v w first.long (marks-told price (marks rate w) (marks rate v) long (marks_small rate w) (marks_small rate v) other (free_cost price 0 (marks rate v) least-none))

module _ {R : Type 0} (cost : R → ℕ → ℕ) (clean : ℕ → R) (clean_free : (m : ℕ) → m < 2 → cost (clean m) m ≡ 0) (clean-dear : (m : ℕ) → m < 2 → 1 ≤ cost (clean m) (1 - m))
    (rate : Rate) (a b m : ℕ) (tall : 1 ≤ a) (wide : 1 ≤ b) (small : a * b ≤ 98304) (low : 1 ≤ m) (room : marks_before rate (8 * m + 6) ≤ a * b) where
  marks_fit : (w : Word) → length w ≡ 8 * m → length (marks rate w) ≤ a * b
  marks_fit w l = omega (arith, length-marks rate w, ap (λ n. marks_before rate (n + 6)) l)

  module _ (x : List ℕ) (long : length x ≡ m) where
    word_long : length (all_bits x) ≡ 8 * m
    word_long = length-all_bits x ∙ ap (λ n. 8 * n) long

    fits : length (marks rate (all_bits x)) ≤ a * b
    fits = marks_fit (all_bits x) word_long

    whole : length (padded (a * b) (marks rate (all_bits x))) ≡ a * b
    whole = length-padded (a * b) (marks rate (all_bits x)) fits

    pub length_block : length (block rate a b x) ≡ a * b
    unfolding block spread
    length_block = length-arranged (helix a b) (helix_rearranges a b tall wide) (padded (a * b) (marks rate (all_bits x))) whole

    price : ℕ → ℕ → ℕ
    price = prices cost a b (map clean (block rate a b x))

    restored_clean : restored (helix a b) (map clean (block rate a b x)) ≡ map clean (padded (a * b) (marks rate (all_bits x)))
    unfolding restored block spread
    restored_clean =
        picked-map clean (helix a b).place (a * b) (block rate a b x)
        ∙ ap (map clean) (restored-arranged (helix a b) (helix_rearranges a b tall wide) (padded (a * b) (marks rate (all_bits x))) whole)

    price_clean : (i v : ℕ) → i < length (marks rate (all_bits x)) → price i v ≡ cost (clean (slice_index (marks rate (all_bits x)) i)) v
    unfolding price
    price_clean i v h =
        let ms = marks rate (all_bits x) in
        let p = padded (a * b) ms in
        ap (λ rs. price_of cost rs i v) restored_clean
        ∙ price-at cost (map clean p) i v (clean 0) (omega (arith, length-map p clean, whole, fits))
        ∙ ap (λ r. cost r v) (get_or-map clean p i 0 (clean 0) (omega (arith, whole, fits)))
        ∙ ap (λ k. cost (clean k) v) (get_or_append_left ms (replicate (a * b - length ms) 0) 0 i h)

    free : Free price 0 (marks rate (all_bits x))
    free k h = ap (λ j. price j (slice_index (marks rate (all_bits x)) k)) (zero-add k) ∙ price_clean k _ h ∙ clean_free _ (marks_small rate (all_bits x) k)

    other : (k : ℕ) → k < length (marks rate (all_bits x)) → 1 ≤ price k (1 - slice_index (marks rate (all_bits x)) k)
    other k h = rw (price_clean k (1 - slice_index (marks rate (all_bits x)) k) h) (clean-dear _ (marks_small rate (all_bits x) k))

    told : least rate price (8 * m) ≡ all_bits x
    told = ap (least rate price) (sym word_long) ∙ least-told rate price (all_bits x) free other

    back : Bytes x → chosen rate m price ≡ record { body = x; counts = record { symbols = 0; bytes = 0 } }
    unfolding chosen
    back h =
        let body : bytes_of m (least rate price (8 * m)) ≡ x = ap (bytes_of m) told ∙ bytes_of_all m x long h in
        let none : dear price 0 (marks rate (least rate price (8 * m))) ≡ 0 = ap (λ w. dear price 0 (marks rate w)) told ∙ dear-free price 0 (marks rate (all_bits x)) free in
        λ i. record { body = body i; counts = record { symbols = none i; bytes = 0 } }

  pub lining_rule : CarrierRule (lining cost clean rate a b m)
  unfolding chosen price
  lining_rule = record {
    body = record { low = low; high = omega (arith, steps_marks rate (8 * m + 6)) };
    air = record { low = omega (arith, steps_marks rate (8 * m + 6)); high = small };
    height_low = omega arith;
    height_high = omega arith;
    need_low = omega arith;
    need_high = omega (arith, steps_marks rate (8 * m + 6));
    sent_length = length_block;
    clean_length = λ ms h. length-map ms clean ∙ h;
    receives = λ rs h.
        let p = prices cost a b rs in
        let w = least rate p (8 * m) in
        record {
          body = length-bytes_of m w;
          symbols = omega (arith, dear_le p 0 (marks rate w), marks_fit w (least_first rate p (8 * m)).long);
          bytes = omega arith;
        };
    returns = λ x h y. ap Ok (back x h y);
  }
