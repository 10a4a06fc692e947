-- Zeros behind a list.
use Rattle.std.proofs.Common.{◌≡◌, ℕ, zero, suc, ◌<◌, ◌≤◌, List, [], ◌∷◌, ◌++◌, length, get_or, take, replicate, sym, refl, ◌∙◌, subst, arith}
use Rattle.std.specs.List.{All}
use Rattle.std.proofs.lemmas.List.{get_or-take, length-take-le}
use Rattle.std.proofs.lemmas.List.Elements.{All-get_or, All-from_get_or}
use Rattle.outer.specs.ByteLists.{Bytes}

pub get_or-zeros : (n k : ℕ) → ◌≡◌ {A = ℕ} (get_or (replicate n 0) k 0) 0
get_or-zeros zero k = refl
get_or-zeros (suc n) zero = refl
get_or-zeros (suc n) (suc k) = get_or-zeros n k

pub get_or-append-zeros : (xs : List ℕ) (n k : ℕ) → get_or (xs ++ replicate n 0) k 0 ≡ get_or xs k 0
get_or-append-zeros [] n k = get_or-zeros n k
get_or-append-zeros (x ∷ xs) n zero = refl
get_or-append-zeros (x ∷ xs) n (suc k) = get_or-append-zeros xs n k

pub bytes_zeros : (n : ℕ) → Bytes (replicate n 0)
bytes_zeros n k = subst (λ b. b < 256) (sym (get_or-zeros n k)) (omega arith)

-- the first n lanes of a list are 0
pub all_taken : (n : ℕ) (xs : List ℕ) → n ≤ length xs → All (λ b. b ≡ 0) (take n xs) → (j : ℕ) → j < n → get_or xs j 0 ≡ 0
all_taken n xs h all j l =
    sym (get_or-take n xs j 0 l) ∙ All-get_or (λ b. b ≡ 0) (take n xs) j 0 (omega (arith, length-take-le n xs h)) all

pub taken_all : (n : ℕ) (xs : List ℕ) → n ≤ length xs → ((j : ℕ) → j < n → get_or xs j 0 ≡ 0) → All (λ b. b ≡ 0) (take n xs)
taken_all n xs h each =
    All-from_get_or (λ b. b ≡ 0) (take n xs) 0 (λ j l. let few : j < n = omega (arith, length-take-le n xs h, l) in get_or-take n xs j 0 few ∙ each j few)
