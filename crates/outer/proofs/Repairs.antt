-- From what the decoder's parts come to, to its answer.
use Rattle.std.proofs.Common.{◌≡◌, ℕ, ◌+◌, ◌-◌, ◌*◌, ◌<◌, ◌≤◌, List, ◌++◌, length, take, None, sym, ap, ◌∙◌, subst, arith}
use borrow.Rule.Slice.PartMut.{put_mid, post_of, Post-is}
use Rattle.std.specs.List.{range_with_len, AllByRecursion as All}
use Rattle.std.proofs.ByRecursion.{all_kept_by, All-get_or}
use Rattle.std.proofs.lemmas.List.{append-nil, drop_all, length-take-le}
use Rattle.galois.specs.Bytes.{ByteField, FieldRule}
use Rattle.outer.specs.ByteLists.{Bytes}
use Rattle.outer.specs.Correction.{Inside, Sizes, Repaired}
use Rattle.outer.specs.Cutting.{Annihilator}
use Rattle.outer.specs.Decoding.{is_located, locator_zeros, error_value, corrected, errors}
use Rattle.outer.specs.Lanes.{lane}
use Rattle.outer.specs.Nearest.{nearest}
use Rattle.outer.specs.Verdict.{Verdict}
use Rattle.outer.specs.Words.{syndrome, CodeWord, encoded}
use Rattle.outer.proofs.Bytewise.{bytes_front, bytes_behind}
use Rattle.outer.proofs.CodeWords.{encoded_is}
use Rattle.outer.proofs.Distances.{distance_itself}
use Rattle.outer.proofs.NearWords.{encoded-front, nearest_itself}
use Rattle.outer.proofs.Places.{all_places}
use Rattle.outer.proofs.Terms.{locator_zeros-padded}
use Rattle.outer.proofs.Verdicts.{decodes}

-- the places of a word's zeros are in the word
zeros_inside : (f : ByteField) (n : ℕ) (cs : List ℕ) → Inside n (locator_zeros f n cs)
unfolding locator_zeros
zeros_inside f n cs i h =
    let zs = locator_zeros f n cs in
    let all : All (λ q. q < n) zs = all_kept_by (is_located f n cs) (λ q. q < n) (range_with_len 0 n) (all_places (λ q. q < n) 0 n (λ q k l. omega arith)) in
    All-get_or (λ q. q < n) zs i 0 h all

module _ (f : ByteField) (rule : FieldRule f) where
  -- check bytes behind the data make what the data are encoded to
  pub filled_is : (r k : ℕ) (w cs : List ℕ) → k ≤ length w → length w ≤ 255 → length cs ≡ length w - k → Bytes (put_mid k (length w - k) w cs)
      → CodeWord f r (length w - k) (take k w ++ cs) → put_mid k (length w - k) w cs ≡ encoded f r (length w - k) (take k w)
  filled_is r k w cs h room lc small code =
      let data-bytes = bytes_front (take k w) (cs ++ post_of k (length w - k) w) small in
      let check-bytes = bytes_front cs (post_of k (length w - k) w) (bytes_behind (take k w) (cs ++ post_of k (length w - k) w) small) in
      ap (λ l. take k w ++ (cs ++ l)) (Post-is k (length w) w h ∙ drop_all (length w) w (omega arith))
      ∙ ap (λ l. take k w ++ l) (append-nil cs)
      ∙ sym (encoded_is f rule r (length w - k) (take k w) cs (omega (arith, length-take-le k w h)) lc data-bytes check-bytes code)

  module _ (r e : ℕ) (w : List ℕ) (sizes : Sizes r e (length w)) (hw : Bytes w) where
    -- a code word is its own repair
    pub repaired_itself : CodeWord f r (2 * e) w → Repaired f r (length w - 2 * e) e w w 0
    repaired_itself code =
        let d = length w - 2 * e in
        let size : length w ≡ d + 2 * e = omega arith in
        record {
          found = nearest_itself f rule r d e w (omega arith) size hw code;
          whole = sym (encoded-front f rule r d (2 * e) w (omega arith) size hw code);
          counted = sym (distance_itself w);
        }

    -- the decoder's parts, from what holds them
    module _ (s a zs : List ℕ) (hs : Bytes s) (known : (l : ℕ) → l < 32 → lane s l ≡ syndrome f r w l) (it : Annihilator f e s a)
        (listed : length (locator_zeros f (length w) a) ≤ 16 → zs ≡ locator_zeros f (length w) a) where
      verdict_here : Verdict f r (length w - 2 * e) e w (locator_zeros f (length w) a) (error_value f r (length w) (locator_zeros f (length w) a) s)
      verdict_here =
          let d = length w - 2 * e in
          let size : d + 2 * e ≡ length w = omega arith in
          let cs = take (e + 1) a in
          let padded = locator_zeros-padded f rule (length w) (e + 1) a (λ l h. it.beyond l (omega arith)) in
          subst (λ zs. Verdict f r d e w zs (error_value f r (length w) zs s)) padded
          (subst (λ n. Verdict f r d e w (locator_zeros f n cs) (error_value f r n (locator_zeros f n cs) s)) size
          (decodes f rule r d e w s cs (omega arith) (sym size) hw (record {
            syndromes_small = hs;
            syndromes_known = λ j h. known j (omega arith);
            size = omega (arith, it.size);
            small = it.small;
            not_zero = it.not_zero;
            annihilates = it.annihilates;
          })))

      is_listed : zs ≡ locator_zeros f (length w) a
      is_listed = listed (omega (arith, verdict_here.few))

      pub places_inside : Inside (length w) zs
      places_inside = subst (Inside (length w)) (sym is_listed) (zeros_inside f (length w) a)

      verdict_listed : Verdict f r (length w - 2 * e) e w zs (error_value f r (length w) zs s)
      verdict_listed = subst (λ zs. Verdict f r (length w - 2 * e) e w zs (error_value f r (length w) zs s)) (sym is_listed) verdict_here

      -- the word with the errors taken off
      module _ (v : List ℕ) (is : v ≡ corrected (error_value f r (length w) zs s) w zs) where
        pub repaired_found : (c : ℕ) → c ≡ errors (error_value f r (length w) zs s) zs → CodeWord f r (2 * e) v
            → Repaired f r (length w - 2 * e) e w v c
        repaired_found c counts code =
            let d = length w - 2 * e in
            let it = verdict_listed in
            let whole = subst (CodeWord f r (2 * e)) is code in
            subst (λ u. Repaired f r d e w u c) (sym is)
            (record {
              found = it.found whole;
              whole = sym (encoded-front f rule r d (2 * e) _ (omega arith) it.long it.small whole);
              counted = counts ∙ sym it.counted;
            })

        pub nearest_lost : ¬ CodeWord f r (2 * e) v → nearest f r (length w - 2 * e) e w ≡ None
        nearest_lost no_code = verdict_listed.lost (λ code. no_code (subst (CodeWord f r (2 * e)) (sym is) code))
