-- The bytes of a body's bits are the body.
use Rattle.std.specs.Prelude.{◌≡◌, ℕ, zero, suc, ◌+◌, ◌*◌, ◌/◌, ◌%◌, ◌<◌, List, [], ◌∷◌, ◌++◌, length, ◌==◌, refl}
use Rattle.std.proofs.Common.{sym, ap, ap₂, ◌∙◌, arith}
use Rattle.std.proofs.lemmas.Nat.{shr-shr}
use Rattle.convolution.specs.Code.{Word, bit, bits, all_bits}
use Rattle.convolution.proofs.Windows.{digit}
use Rattle.stack.specs.Buffers.{Bytes}
use Rattle.line.specs.Line.{byte_of, bytes_of}

byte_bits : (b : ℕ) (rest : Word) → b < 256 → byte_of (bits b ++ rest) ≡ b
unfolding byte_of bits
byte_bits b rest h =
    let half = λ (k : ℕ). sym (shr-shr b k 1) in
    let d : (n : ℕ) → bit (n % 2 == 1) ≡ n % 2 = digit in
    (λ i. 128 * d (b / 128) i + 64 * d (b / 64) i + 32 * d (b / 32) i + 16 * d (b / 16) i + 8 * d (b / 8) i + 4 * d (b / 4) i + 2 * d (b / 2) i + d b i)
    ∙ omega (arith, half 1, half 2, half 3, half 4, half 5, half 6)

pub bytes_of_all : (m : ℕ) (x : List ℕ) → length x ≡ m → Bytes x → bytes_of m (all_bits x) ≡ x
unfolding bytes_of all_bits bits
bytes_of_all zero [] l h = refl
bytes_of_all zero (b ∷ x) l h = absurd (omega arith)
bytes_of_all (suc m) [] l h = absurd (omega arith)
bytes_of_all (suc m) (b ∷ x) l h = ap₂ ◌∷◌ (byte_bits b (all_bits x) (h 0)) (bytes_of_all m x (omega arith) (λ k. h (suc k)))

pub length-bytes_of : (m : ℕ) (w : Word) → length (bytes_of m w) ≡ m
unfolding bytes_of
length-bytes_of zero w = refl
length-bytes_of (suc m) w = ap suc (length-bytes_of m _)
