-- The text that bytes are written as, and the bytes that a text says.
use Rattle.std.proofs.Common.{◌≡◌, ℕ, zero, suc, ◌+◌, ◌*◌, ◌/◌, ◌%◌, ◌<◌, true, List, [], ◌∷◌, ◌++◌, length, get_or, take, drop, is_some, Some, sym, refl, ap, ◌∙◌, inl, inr, arith, below_more}
use lib.Utf8.{encode}
use Rattle.std.proofs.lemmas.List.{take_more, ext_get_or, get_or_append_left, get_or_push, get_or-take, get_or-drop}
use Rattle.std.specs.Simd.{first_chunks}
use Rattle.std.proofs.lemmas.Bool.{cases_lt}
use Rattle.std.proofs.lemmas.Str.{encode_ascii}
use Rattle.hex_text.specs.declared.HexError.{HexError}
use Rattle.hex_text.specs.declared.HexError.TheVariants.{Odd, NotADigit, Memory}
use Rattle.hex_text.specs.Digits.{digit, letter, written, Pair, Pairs, Says, Leads}
use Rattle.hex_text.specs.Parsing.{Because}
use Rattle.hex_text.proofs.Values.{digit-letter, letter_ascii}

written_push : (bs : List ℕ) (b : ℕ) → written (bs ++ b ∷ []) ≡ (written bs ++ letter (b / 16) ∷ []) ++ letter (b % 16) ∷ []
unfolding written
written_push [] b = refl
written_push (a ∷ bs) b = ap (λ t. letter (a / 16) ∷ letter (a % 16) ∷ t) (written_push bs b)

-- a text that goes on with the two digits of the next byte
pub written_more : (bs first half whole : List ℕ) (i high low : ℕ) → i < length bs → get_or bs i 0 < 256 → first ≡ written (take i bs) → high ≡ letter (get_or bs i 0 / 16) → low ≡ letter (get_or bs i 0 % 16)
    → half ≡ first ++ encode high → whole ≡ half ++ encode low → whole ≡ written (take (i + 1) bs)
written_more bs first half whole i high low h small e p q f g =
    let u : high < 128 = rw p (letter_ascii (get_or bs i 0 / 16) (omega arith)) in
    let v : low < 128 = rw q (letter_ascii (get_or bs i 0 % 16) (omega arith)) in
    let m = ap written (take_more bs i 0 h) ∙ written_push (take i bs) (get_or bs i 0) in
    let x = encode_ascii high u in
    let y = encode_ascii low v in
    cc

length-written : (bs : List ℕ) → length (written bs) ≡ 2 * length bs
unfolding written
length-written [] = refl
length-written (b ∷ bs) = let e : length (written bs) ≡ 2 * length bs = length-written bs in omega arith

written_pairs : (bs : List ℕ) → ((i : ℕ) → get_or bs i 0 < 256) → Pairs (written bs) bs (length bs)
unfolding written
written_pairs [] small i h = let no : ⊥ = omega arith in elim no [ ]
written_pairs (b ∷ bs) small zero h = (digit-letter (b / 16) (omega (arith, small 0)), digit-letter (b % 16) (omega arith))
written_pairs (b ∷ bs) small (suc i) h =
    let high : 2 * suc i ≡ suc (suc (2 * i)) = omega arith in
    let low : 2 * suc i + 1 ≡ suc (suc (2 * i + 1)) = omega arith in
    rw (low, high) (written_pairs bs (λ k. small (suc k)) i (omega arith))

-- what is written says the bytes
pub written_says : (bs : List ℕ) → ((i : ℕ) → get_or bs i 0 < 256) → Says (written bs) bs
written_says bs small = record { twice = length-written bs; digits = written_pairs bs small }

-- one byte more
pub pairs_more : (t xs : List ℕ) (i b : ℕ) → length xs ≡ i → Pairs t xs i → Pair (get_or t (2 * i) 0) (get_or t (2 * i + 1) 0) b → Pairs t (xs ++ b ∷ []) (i + 1)
pairs_more t xs i b e said here = below_more _ _ (λ k h. let l : k < length xs = omega arith in rw get_or_append_left (said k h)) (rw get_or_push here)

-- character j of piece i, of a text cut into pieces of two, is character 2 * i + j
chunk-at : (k : ℕ) (t : List ℕ) (i j : ℕ) → i < k → j < 2 → get_or (get_or (first_chunks 2 k t) i []) j 0 ≡ get_or t (2 * i + j) 0
chunk-at zero t i j h l = absurd (omega arith)
chunk-at (suc k) t zero j h l = get_or-take 2 t j 0 l ∙ ap (λ n. get_or t n 0) (omega arith)
chunk-at (suc k) t (suc i) j h l = chunk-at k (drop 2 t) i j (omega arith) l ∙ get_or-drop 2 t (2 * i + j) 0 ∙ ap (λ n. get_or t n 0) (omega arith)

-- the first character of pair i is character 2 * i of the text
pub high-at : {k : ℕ} {pairs : List (List ℕ)} (t : List ℕ) (i : ℕ) → pairs ≡ first_chunks 2 k t → i < k → get_or (get_or pairs i []) 0 0 ≡ get_or t (2 * i) 0
high-at {k = k} t i e h = ap (λ ps. get_or (get_or ps i []) 0 0) e ∙ chunk-at k t i 0 h (omega arith) ∙ ap (λ n. get_or t n 0) (omega arith)

-- the second is the one after it
pub low-at : {k : ℕ} {pairs : List (List ℕ)} (t : List ℕ) (i : ℕ) → pairs ≡ first_chunks 2 k t → i < k → get_or (get_or pairs i []) 1 0 ≡ get_or t (2 * i + 1) 0
low-at {k = k} t i e h = ap (λ ps. get_or (get_or ps i []) 1 0) e ∙ chunk-at k t i 1 h (omega arith)

same_byte : (high low a b : ℕ) → Pair high low a → Pair high low b → a ≡ b
same_byte high low a b p q =
    let above : a / 16 ≡ b / 16 = cc (p.0, q.0) in
    let below : a % 16 ≡ b % 16 = cc (p.1, q.1) in
    omega arith

-- a text says one list of bytes
pub says_once : (t bs cs : List ℕ) → Says t bs → Says t cs → bs ≡ cs
says_once t bs cs p q =
    let e : length bs ≡ length cs = omega (arith, p.twice, q.twice) in
    ext_get_or 0 bs cs e (λ i h. same_byte (get_or t (2 * i) 0) (get_or t (2 * i + 1) 0) (get_or bs i 0) (get_or cs i 0) (p.digits i h) (q.digits i (omega arith)))

digit_at : (t : List ℕ) (j k v : ℕ) → j ≡ k → digit (get_or t j 0) ≡ Some v → is_some (digit (get_or t k 0)) ≡ true
digit_at t j k v e f = ap is_some (ap (λ n. digit (get_or t n 0)) (sym e) ∙ f)

-- each character of a text that says bytes is a digit
says_leads : (t bs : List ℕ) → Says t bs → Leads t (length t)
says_leads t bs p k h =
    let said = p.digits (k / 2) (omega (arith, p.twice)) in
    elim (cases_lt (k % 2) 1) [
      | inl e ↦ digit_at t (2 * (k / 2)) k (get_or bs (k / 2) 0 / 16) (omega arith) said.0
      | inr e ↦ digit_at t (2 * (k / 2) + 1) k (get_or bs (k / 2) 0 % 16) (omega arith) said.1
    ]

-- a text that says bytes is refused only for want of memory
pub refused_memory : (t bs : List ℕ) (e : HexError) → Says t bs → Because t e → e ≡ Memory
refused_memory t bs Odd p w = let no : ⊥ = omega (arith, p.twice, w.1) in elim no [ ]
refused_memory t bs (NotADigit place) p w =
    let z : ◌≡◌ {A = ℕ} 0 1 = cc (ap is_some w.1, says_leads t bs p place w.0) in
    let no : ⊥ = omega arith in elim no [ ]
refused_memory t bs Memory p w = refl
