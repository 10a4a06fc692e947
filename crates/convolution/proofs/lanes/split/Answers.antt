-- The lanes at even places and at odd ones.
use Rattle.std.proofs.Common.{◌≡◌, ℕ, ◌+◌, ◌*◌, ◌<◌, List, ◌++◌, map, get_or, ap, ◌∙◌, zero-add}
use lib.Lanes.{pick_l}
use Rattle.std.specs.List.{range_with_len}
use Rattle.std.proofs.lemmas.List.FromFn.{get_or-range_with_len}
use Rattle.std.proofs.lemmas.List.{get_or-map}
use Rattle.convolution.proofs.lanes.split.Goals as goal

picked : (xs : List ℕ) (f : ℕ → ℕ) (s : ℕ) → s < 32 → get_or (pick_l 0 xs (map f (range_with_len 0 32))) s 0 ≡ get_or xs (f s) 0
picked xs f s h =
    get_or-map (λ k. get_or xs k 0) (map f (range_with_len 0 32)) s 0 0 h
    ∙ ap (λ k. get_or xs k 0) (get_or-map f (range_with_len 0 32) s 0 0 h ∙ ap f (get_or-range_with_len 0 32 s 0 h ∙ zero-add s))

pub returns : goal.returns
returns c = record {
  even = picked (c.args.low ++ c.args.high) (λ k. 2 * k);
  odd = picked (c.args.low ++ c.args.high) (λ k. 2 * k + 1);
}
