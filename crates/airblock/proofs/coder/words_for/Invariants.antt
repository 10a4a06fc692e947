use Rattle.std.proofs.Common.{◌≡◌, ℕ, ◌%◌, ◌≤◌}
use Rattle.airblock.proofs.coder.words_for.Given as goal

abbrev pub invariant-loop-words : goal.invariant-loop-words
invariant-loop-words l = (more : ℕ) → l.words ≤ more → more ≤ 16 → l.length % more ≡ 0 → ⊥
