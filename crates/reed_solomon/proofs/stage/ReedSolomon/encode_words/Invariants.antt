-- The words before are code words, and those behind are left.
use Rattle.std.proofs.Common.{◌≡◌, ◌+◌, ◌*◌, ◌≤◌, take, drop}
use Rattle.reed_solomon.specs.Coding.{words_encoded}
use Rattle.reed_solomon.proofs.stage.ReedSolomon.encode_words.Given as goal

abbrev pub invariant-loop-w : goal.invariant-loop-w
invariant-loop-w g l =
    (l.w-iterator.iter.size ≡ l.self.length)
    × (l.w-iterator.count ≤ l.self.words)
    × (l.w-iterator.iter.rest.now ≡ drop (l.w-iterator.count * l.self.length) l.from)
    × (take (l.w-iterator.count * (l.self.length + 2 * l.self.errors)) l.to ≡ words_encoded (g.F.Field.meaning l.self.field) l.self.root l.self.length l.self.errors l.w-iterator.count l.from)
