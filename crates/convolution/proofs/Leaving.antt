-- The traceback from state 0 gives the least word, and then the zeros before it began. Words are held newest bit first.
use Rattle.std.proofs.Common.{◌≡◌, ℕ, zero, suc, ◌+◌, ◌*◌, ◌%◌, ◌<◌, ◌≤◌, Bool, true, false, [], ◌∷◌, ◌++◌, length, get_or, sym, refl, ap, ◌∙◌, add-zero, arith}
use Rattle.std.proofs.lemmas.Bool.Decides.{nat_tests}
use Rattle.convolution.specs.Code.{Word, bit, zeros}
use Rattle.convolution.specs.Cost.{best}
use Rattle.convolution.specs.Trellis.{before, far, start}
use Rattle.convolution.proofs.Survivor.{way, trace, best_like, best-trace}
use Rattle.convolution.proofs.Windows.{bit_below}
use Rattle.convolution.proofs.Tail.{best_tail, way-front}

-- the bit at a place, counted from the newest; 0 before the word began
abbrev pub at : Word → ℕ → ℕ
at w k = bit (get_or w k false)

-- the six newest bits, the newest highest
abbrev pub six : Word → ℕ
six w = 32 * at w 0 + 16 * at w 1 + 8 * at w 2 + 4 * at w 3 + 2 * at w 4 + at w 5

-- the seven newest bits, the newest highest
abbrev pub newest : Word → ℕ
newest w = 64 * at w 0 + 32 * at w 1 + 16 * at w 2 + 8 * at w 3 + 4 * at w 4 + 2 * at w 5 + at w 6

-- the cost of a word, step t at the window of its bits up to place t
unfoldable pub total : (ℕ → ℕ → ℕ) → Word → ℕ
total cost [] = 0
total cost (b ∷ v) = total cost v + cost (length v) (newest (b ∷ v))

-- the bits that leave the window, the last first
leave : Word → Word
leave [] = []
leave (b ∷ v) = get_or v 5 false ∷ leave v

leave_six : (a b c d e f : Bool) (v : Word) → leave (a ∷ b ∷ c ∷ d ∷ e ∷ f ∷ v) ≡ v ++ zeros 6
unfolding leave
leave_six a b c d e f [] = refl
leave_six a b c d e f (g ∷ v) = ap (λ u. g ∷ u) (leave_six b c d e f g v)

newest_of : (b : Bool) (v : Word) → 2 * six (b ∷ v) + bit (get_or v 5 false) ≡ newest (b ∷ v)
newest_of b v = omega arith

six_of : (b : Bool) (v : Word) → newest (b ∷ v) % 64 ≡ six v
six_of b v = omega (arith, bit_below b, bit_below (get_or v 0 false), bit_below (get_or v 1 false), bit_below (get_or v 2 false), bit_below (get_or v 3 false), bit_below (get_or v 4 false), bit_below (get_or v 5 false))

-- the cost of a word is that of the way on which its bits leave
way_of : (cost : ℕ → ℕ → ℕ) (w : Word) → way cost (length w) (six w) (leave w) ≡ total cost w
unfolding way total leave
way_of cost [] = refl
way_of cost (b ∷ v) = rw (newest_of b v, six_of b v, way_of cost v)

-- the state before the first step
unfoldable pub origin : ℕ → Word → ℕ
origin s [] = s
origin s (d ∷ u) = origin (before s d) u

six-bits : (z : Word) → length z ≡ 6 → (a b c d e f : Bool) × (z ≡ a ∷ b ∷ c ∷ d ∷ e ∷ f ∷ [])
six-bits [] l = absurd (omega arith)
six-bits (a ∷ []) l = absurd (omega arith)
six-bits (a ∷ b ∷ []) l = absurd (omega arith)
six-bits (a ∷ b ∷ c ∷ []) l = absurd (omega arith)
six-bits (a ∷ b ∷ c ∷ d ∷ []) l = absurd (omega arith)
six-bits (a ∷ b ∷ c ∷ d ∷ e ∷ []) l = absurd (omega arith)
six-bits (a ∷ b ∷ c ∷ d ∷ e ∷ f ∷ []) l = (a, b, c, d, e, f, refl)
six-bits (a ∷ b ∷ c ∷ d ∷ e ∷ f ∷ g ∷ z) l = absurd (omega arith)

bit_zero : (b : Bool) → bit b ≡ 0 → b ≡ false
bit_zero true h = absurd (omega arith)
bit_zero false h = refl

pub origin-six : (s : ℕ) (a b c d e f : Bool) → origin s (a ∷ b ∷ c ∷ d ∷ e ∷ f ∷ []) ≡ 32 * bit a + 16 * bit b + 8 * bit c + 4 * bit d + 2 * bit e + bit f
unfolding origin
origin-six s a b c d e f = omega (arith, bit_below a, bit_below b, bit_below c, bit_below d, bit_below e, bit_below f)

origin_not_zero : (s : ℕ) (z : Word) → length z ≡ 6 → (z ≡ zeros 6 → ⊥) → origin s z ≡ 0 → ⊥
origin_not_zero s z l ne o =
    let (a, b, c, d, e, f, is) = six-bits z l in
    let all = sym (origin-six s a b c d e f) ∙ ap (origin s) (sym is) ∙ o in
    let za = bit_zero a (omega arith) in
    let zb = bit_zero b (omega arith) in
    let zc = bit_zero c (omega arith) in
    let zd = bit_zero d (omega arith) in
    let ze = bit_zero e (omega arith) in
    let zf = bit_zero f (omega arith) in
    ne (cc)

start-far : (s : ℕ) → (s ≡ 0 → ⊥) → start s ≡ far
start-far s ne = grind (arith, nat_tests)

module _ (cost : ℕ → ℕ → ℕ) (below : (t w : ℕ) → cost t w ≤ 384) where
  way-low : (k s : ℕ) (u : Word) → length u ≡ k → start (origin s u) ≤ way cost k s u
  unfolding way origin
  way-low zero s [] l = omega arith
  way-low zero s (d ∷ u) l = absurd (omega arith)
  way-low (suc k) s [] l = absurd (omega arith)
  way-low (suc k) s (d ∷ u) l = let m : length u ≡ k = omega arith in omega (arith, way-low k (before s d) u m)

  way_high : (k s : ℕ) (u : Word) → length u ≡ k → way cost k s u ≤ k * 384 + start (origin s u)
  unfolding way origin
  way_high zero s [] l = omega arith
  way_high zero s (d ∷ u) l = absurd (omega arith)
  way_high (suc k) s [] l = absurd (omega arith)
  way_high (suc k) s (d ∷ u) l = let m : length u ≡ k = omega arith in omega (arith, way_high k (before s d) u m, below k (2 * s + bit d))

  from_zero : (z : Word) → length z ≡ 6 → (z ≡ zeros 6 → ⊥) → (s : ℕ) → way cost 6 s (zeros 6) < way cost 6 s z
  from_zero z l ne s =
      let o : origin s (zeros 6) ≡ 0 = origin-six s false false false false false false in
      omega (arith, rw o at (way_high 6 s (zeros 6) refl), way-low 6 s z l, start-far (origin s z) (origin_not_zero s z l ne))

  way-total : (n : ℕ) (d : Word) → length d ≡ n → way cost (n + 6) 0 (d ++ zeros 6) ≡ total cost (zeros 6 ++ d) + 0
  way-total n d l =
      let e : length (zeros 6 ++ d) ≡ n + 6 = omega arith in
      rw (← e, ← leave_six false false false false false false d) (way_of cost (zeros 6 ++ d) ∙ sym (add-zero (total cost (zeros 6 ++ d))))

  pub trace-best : (n : ℕ) → trace cost (n + 6) 0 ≡ best n (λ d. total cost (zeros 6 ++ d)) ++ zeros 6
  trace-best n =
      let w = way cost (n + 6) 0 in
      sym (best-trace cost (n + 6) 0)
      ∙ best_tail n 6 w (λ v z l m ne. way-front cost 6 (zeros 6) z (from_zero z m ne) n v l 0)
      ∙ ap (λ u. u ++ zeros 6) (best_like n 0 (λ d. w (d ++ zeros 6)) (λ d. total cost (zeros 6 ++ d)) (way-total n))
