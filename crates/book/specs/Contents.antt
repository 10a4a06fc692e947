-- The contents of a book: the entry width, the number of entries, and a line of six bytes for each.
use Rattle.std.specs.Prelude.{◌≡◌, ℕ, ◌+◌, ◌*◌, cond, List, Some, None, Option, Result, MatchResult, ◌==◌, slice_index}
use Rattle.book.specs.declared.contents.Kind.{Kind}
use Rattle.book.specs.declared.contents.Kind.TheVariants.{Body, Block, Soft, Samples}
use Rattle.book.specs.declared.contents.EntryLine.{EntryLine}
use Rattle.book.specs.declared.contents.UnknownKind.{UnknownKind}

-- byte 0: how wide the entries of the contents are
abbrev pub width : List ℕ → ℕ
width f = slice_index f 0

-- byte 1: how many entries there are
abbrev pub count : List ℕ → ℕ
count f = slice_index f 1

-- the bytes of width, count and contents
abbrev pub contents_end : List ℕ → ℕ
contents_end f = 2 + 6 * count f

-- line e, from 0: plan, kind, start and length, the last two with the high byte first
unfoldable pub line_at : List ℕ → ℕ → EntryLine
line_at f e = record {
  plan = slice_index f (2 + 6 * e);
  kind = slice_index f (2 + 6 * e + 1);
  start = 256 * slice_index f (2 + 6 * e + 2) + slice_index f (2 + 6 * e + 3);
  length = 256 * slice_index f (2 + 6 * e + 4) + slice_index f (2 + 6 * e + 5);
}

-- the kinds by number
abbrev pub kind_of : ℕ → Option Kind
kind_of n = cond (n == 0) (Some Body) (cond (n == 1) (Some Block) (cond (n == 2) (Some Soft) (cond (n == 3) (Some Samples) None)))

-- the kind with a number, or the number that no kind has
abbrev pub KindOf : ℕ → Result Kind UnknownKind → Type 0
KindOf n r = MatchResult r (λ k. kind_of n ≡ Some k) (λ e. (e.0 ≡ n) × (kind_of n ≡ None))
