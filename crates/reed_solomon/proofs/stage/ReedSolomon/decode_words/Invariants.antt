-- The words before gave their data, with the bytes corrected, and those behind are left as they came.
use Rattle.std.proofs.Common.{◌≡◌, ◌+◌, ◌*◌, ◌≤◌, take, drop, Ok}
use Rattle.reed_solomon.specs.Coding.{words_decoded}
use Rattle.reed_solomon.proofs.stage.ReedSolomon.decode_words.Given as goal

abbrev pub invariant-loop-w : goal.invariant-loop-w
invariant-loop-w g l =
    (l.w-iterator.iter.size ≡ l.self.length + 2 * l.self.errors)
    × (l.w-iterator.count ≤ l.self.words)
    × (l.w-iterator.iter.rest.s.now ≡ drop (l.w-iterator.count * (l.self.length + 2 * l.self.errors)) l.fn.from)
    × (words_decoded (g.F.Field.meaning l.self.field) l.self.root l.self.length l.self.errors l.w-iterator.count l.fn.from ≡ Ok (record { body = take (l.w-iterator.count * l.self.length) l.to; count = l.count }))
