-- Lists that are filled element by element.
use Rattle.std.proofs.Common.{◌≡◌, ℕ, zero, suc, ◌+◌, ◌*◌, ◌<◌, ◌≤◌, Bool, cond, leb, List, [], ◌∷◌, ◌++◌, map, length, get_or, get_or-take, get_or-drop, take, drop, set, ℤ, Some, None, sym, refl, ap, ◌∙◌, le_of_suc-le-suc, add-one, arith, drop_of_length-le, take_all, drop-cons, take-suc, take-suc-set, w16, to_z}
use Rattle.std.proofs.lemmas.List.{map-append}
use Rattle.std.proofs.lemmas.Bool.{le-leb, lt-leb}
use Rattle.std.specs.Simd.{first_chunks}
use Rattle.book.specs.Running.{first_over, samples}

-- one element more
pub one_more : {A B : Type 0} (f : A → B) (xs : List A) (ys : List B) (d : A) (v : B) (i : ℕ) → i < length xs → i < length ys → v ≡ f (get_or xs i d) → take i ys ≡ map f (take i xs) → take (i + 1) (set ys i v) ≡ map f (take (i + 1) xs)
one_more f xs ys d v i h k is e =
    ap (λ (j : ℕ). take j (set ys i v)) (add-one i) ∙ take-suc-set ys i v k
    ∙ (λ j. e j ++ (is j ∷ [])) ∙ sym (map-append f (take i xs) (get_or xs i d ∷ []))
    ∙ ap (map f) (sym (take-suc xs i d h)) ∙ ap (λ (j : ℕ). map f (take j xs)) (sym (add-one i))

-- all of them
pub all_taken : {A B : Type 0} (f : A → B) (xs : List A) (ys : List B) (i : ℕ) → i ≡ length xs → length xs ≡ length ys → take i ys ≡ map f (take i xs) → ys ≡ map f xs
all_taken f xs ys i h k e = sym (take_all i ys (omega arith)) ∙ e ∙ ap (map f) (take_all i xs (omega arith))

-- half as many samples as bytes, each of its two
pub samples-length : (n : ℕ) (bs : List ℕ) → length bs ≡ 2 * n → length (samples bs) ≡ n
unfolding samples
samples-length zero [] h = refl
samples-length zero (b ∷ bs) h = absurd (omega arith)
samples-length (suc n) [] h = absurd (omega arith)
samples-length (suc n) (b ∷ []) h = absurd (omega arith)
samples-length (suc n) (high ∷ low ∷ bs) h = ap suc (samples-length n bs (omega arith))

pub sample_at : (n i : ℕ) (bs : List ℕ) (d : ℤ) → length bs ≡ 2 * n → i < n → get_or (samples bs) i d ≡ to_z w16 (get_or bs (2 * i) 0 * 256 + get_or bs (2 * i + 1) 0)
unfolding samples
sample_at zero i bs d h k = absurd (omega arith)
sample_at (suc n) i [] d h k = absurd (omega arith)
sample_at (suc n) i (b ∷ []) d h k = absurd (omega arith)
sample_at (suc n) zero (high ∷ low ∷ bs) d h k = refl
sample_at (suc n) (suc i) (high ∷ low ∷ bs) d h k =
    let e : suc (suc (2 * i)) ≡ 2 * suc i = omega arith in
    let u : suc (suc (2 * i + 1)) ≡ 2 * suc i + 1 = omega arith in
    sample_at n i bs d (omega arith) (le_of_suc-le-suc k)
    ∙ ap (λ (j : ℕ). to_z w16 (get_or (high ∷ low ∷ bs) j 0 * 256 + get_or bs (2 * i + 1) 0)) e
    ∙ ap (λ (j : ℕ). to_z w16 (get_or (high ∷ low ∷ bs) (2 * suc i) 0 * 256 + get_or (high ∷ low ∷ bs) j 0)) u

-- byte j of pair i of a list
chunk_at : (k : ℕ) (bs : List ℕ) (i j : ℕ) → i < k → j < 2 → get_or (get_or (first_chunks 2 k bs) i []) j 0 ≡ get_or bs (2 * i + j) 0
chunk_at zero bs i j h l = absurd (omega arith)
chunk_at (suc k) bs zero j h l = get_or-take 2 bs j 0 l ∙ ap (λ (n : ℕ). get_or bs n 0) (omega arith)
chunk_at (suc k) bs (suc i) j h l = chunk_at k (drop 2 bs) i j (omega arith) l ∙ get_or-drop 2 bs (2 * i + j) 0 ∙ ap (λ (n : ℕ). get_or bs n 0) (omega arith)

pub pair_at : {k : ℕ} {pairs : List (List ℕ)} (bs : List ℕ) (i j : ℕ) → pairs ≡ first_chunks 2 k bs → i < k → j < 2 → get_or (get_or pairs i []) j 0 ≡ get_or bs (2 * i + j) 0
pair_at {k = k} bs i j e h l = ap (λ (ps : List (List ℕ)). get_or (get_or ps i []) j 0) e ∙ chunk_at k bs i j h l

-- a byte that is a mark, and one that is none
at_byte : (i : ℕ) (bs : List ℕ) → i < length bs → first_over i (drop i bs) ≡ cond (leb (get_or bs i 0) 2) (first_over (suc i) (drop (suc i) bs)) (Some i)
unfolding first_over
at_byte i bs h = ap (first_over i) (drop-cons bs i 0 h)

pub over_not : (i : ℕ) (bs : List ℕ) → i < length bs → get_or bs i 0 ≤ 2 → first_over i (drop i bs) ≡ first_over (i + 1) (drop (i + 1) bs)
over_not i bs h k =
    at_byte i bs h ∙ ap (λ (b : Bool). cond b (first_over (suc i) (drop (suc i) bs)) (Some i)) (le-leb (get_or bs i 0) 2 k)
    ∙ ap (λ (j : ℕ). first_over j (drop j bs)) (sym (add-one i))

pub over_here : (i : ℕ) (bs : List ℕ) → i < length bs → 2 < get_or bs i 0 → first_over i (drop i bs) ≡ Some i
over_here i bs h k = at_byte i bs h ∙ ap (λ (b : Bool). cond b (first_over (suc i) (drop (suc i) bs)) (Some i)) (lt-leb (get_or bs i 0) 2 k)

pub over_none : (i : ℕ) (bs : List ℕ) → i ≡ length bs → first_over i (drop i bs) ≡ None
unfolding first_over
over_none i bs h = ap (first_over i) (drop_of_length-le bs (omega arith))
