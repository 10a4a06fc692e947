-- How the program lays a body out.
use Rattle.std.specs.Prelude.{◌≡◌, ℕ, ◌+◌, ◌*◌, ◌/◌, ◌%◌, ◌<◌, ◌≤◌, ◌≢◌}

-- the most words, from 1 to 16, into which n bytes divide evenly
pub record Divides (n words : ℕ) : Type 0 where
  pub low : 1 ≤ words
  pub high : words ≤ 16
  pub even : n % words ≡ 0
  pub most : (more : ℕ) → words < more → more ≤ 16 → n % more ≢ 0

-- a body of n bytes and its check byte divide into words that have room for six check bytes each
pub record Fits (n : ℕ) : Type 0 where
  pub low : 1 ≤ n
  pub high : n + 1 ≤ 3984
  pub room : (words : ℕ) → Divides (n + 1) words → (n + 1) / words ≤ 249

-- the numbers of the stack for bodies of n bytes: the check byte makes it n + 1, which is one unit of the randomiser and so many whole words, each with six check bytes
pub record Coded (n check seed unit random root words word errors : ℕ) : Type 0 where
  pub check_length : check ≡ n
  pub the_seed : seed ≡ 0x4A80
  pub one_unit : unit ≡ n + 1
  pub random_length : random ≡ n + 1
  pub first_root : root ≡ 1
  pub divides : Divides (n + 1) words
  pub block : words * word ≡ n + 1
  pub corrects : errors ≡ 3
