-- A book that is not refused is covered by its parts.
use Rattle.std.proofs.Common.{◌≡◌, ℕ, zero, suc, ◌+◌, ◌<◌, ◌≤◌, Bool, true, false, cond, ◌&&◌, eqb, leb, ◌⊎◌, List, length, Some, None, Option, sym, refl, ap, ◌∙◌, inl, inr, add-one, arith, eq-eqb, ne_eqb}
use Rattle.std.proofs.lemmas.Bool.{and_parts, eqb-true, leb-true, le-leb, cases_lt}
use Rattle.limits.specs.Limits.{between}
use Rattle.plan.specs.Listed.{listed}
use Rattle.book.specs.declared.contents.EntryLine.{EntryLine}
use Rattle.book.specs.declared.fault.BookFault.{BookFault}
use Rattle.book.specs.declared.fault.BookFault.TheVariants.{Size, Width, Count, Start}
use Rattle.book.specs.Contents.{width, count, contents_end, line_at}
use Rattle.book.specs.Judging.{by_plan, entry_wrong, start_at, or_else, entries_wrong, parts_wrong, file_wrong, Covered, OtherWidth}

-- where a test guards a fault, nothing wrong says that the test holds
guard : (b : Bool) (rest : Option BookFault) (w : BookFault) → cond b rest (Some w) ≡ None → (b ≡ true) × (rest ≡ None)
guard true rest w h = (refl, h)
guard false rest w h = absurd (let z : ◌≡◌ {A = ℕ} 0 1 = cc in omega arith)

neither : (v w : Option BookFault) → or_else v w ≡ None → (v ≡ None) × (w ≡ None)
neither None w h = (refl, h)
neither (Some v) w h = absurd (let z : ◌≡◌ {A = ℕ} 0 1 = cc in omega arith)

-- what an accepted file has passed
pub record Passed (f : List ℕ) : Type 0 where
  pub size : between 2 60000 (length f) ≡ true
  pub wide : width f ≡ 6
  pub few : between 1 32 (count f) ≡ true
  pub contents : contents_end f ≤ length f
  pub entries : entries_wrong f (count f) ≡ None
  pub end : start_at f (count f) ≡ length f

pub passed : (f : List ℕ) → file_wrong f ≡ None → Passed f
unfolding file_wrong
passed f h =
    let size = guard _ _ _ h in
    let wide = guard _ _ _ size.1 in
    let few = guard _ _ _ wide.1 in
    let long = guard _ _ _ few.1 in
    let parts = neither _ _ long.1 in
    let end = guard _ _ _ parts.1 in
    record {
      size = size.0;
      wide = eqb-true _ _ wide.0;
      few = few.0;
      contents = leb-true _ _ long.0;
      entries = parts.0;
      end = eqb-true _ _ end.0;
    }

-- nothing is wrong with any of the entries
pub each_right : (f : List ℕ) (n e : ℕ) → entries_wrong f n ≡ None → e < n → entry_wrong (e + 1) (start_at f e) (line_at f e) ≡ None
unfolding entries_wrong
each_right f zero e h k = absurd (omega arith)
each_right f (suc n) e h k =
    let parts = neither (entries_wrong f n) _ h in go (each_right f n e parts.0) parts.1 (cases_lt e n)
  where
    go : (e < n → entry_wrong (e + 1) (start_at f e) (line_at f e) ≡ None) → entry_wrong (n + 1) (start_at f n) (line_at f n) ≡ None → (e < n) ⊎ (n ≤ e) → entry_wrong (e + 1) (start_at f e) (line_at f e) ≡ None
    go rest here (inl lt) = rest lt
    go rest here (inr ge) = let same : e ≡ n = omega arith in ap (λ (i : ℕ). entry_wrong (i + 1) (start_at f i) (line_at f i)) same ∙ here

pub starts : (e s : ℕ) (l : EntryLine) → entry_wrong e s l ≡ None → l.start ≡ s
unfolding entry_wrong
starts e s l h = eqb-true _ _ (guard (eqb l.start s) (by_plan e l (listed l.plan)) (Start e) h).0

start_of : (f : List ℕ) (e : ℕ) → file_wrong f ≡ None → e < count f → (line_at f e).start ≡ start_at f e
start_of f e h k = starts (e + 1) (start_at f e) (line_at f e) (each_right f (count f) e (passed f h).entries k)

start_more : (f : List ℕ) (e : ℕ) → start_at f (e + 1) ≡ start_at f e + (line_at f e).length
unfolding start_at
start_more f e = ap (start_at f) (add-one e)

start_first : (f : List ℕ) → start_at f 0 ≡ contents_end f
unfolding start_at
start_first f = refl

pub covered : (f : List ℕ) → file_wrong f ≡ None → Covered f
covered f h =
    let few = and_parts _ _ (passed f h).few in
    record {
      first = start_of f 0 h (leb-true _ _ few.0) ∙ start_first f;
      next = λ e k. start_of f (e + 1) h k ∙ start_more f e ∙ ap (λ (s : ℕ). s + (line_at f e).length) (sym (start_of f e h (omega arith)));
      last = λ e k. ap (λ (s : ℕ). s + (line_at f e).length) (start_of f e h (omega arith)) ∙ sym (start_more f e) ∙ ap (start_at f) k ∙ (passed f h).end;
    }

-- what is wrong with a file, one test after another
module _ (f : List ℕ) where
  pub by_size : between 2 60000 (length f) ≡ false → file_wrong f ≡ Some Size
  unfolding file_wrong
  by_size s = ap (λ (b : Bool). cond b (cond (eqb (width f) 6) (cond (between 1 32 (count f)) (cond (leb (contents_end f) (length f)) (parts_wrong f) (Some Size)) (Some Count)) (Some Width)) (Some Size)) s

  sized : between 2 60000 (length f) ≡ true → file_wrong f ≡ cond (eqb (width f) 6) (cond (between 1 32 (count f)) (cond (leb (contents_end f) (length f)) (parts_wrong f) (Some Size)) (Some Count)) (Some Width)
  unfolding file_wrong
  sized s = ap (λ (b : Bool). cond b (cond (eqb (width f) 6) (cond (between 1 32 (count f)) (cond (leb (contents_end f) (length f)) (parts_wrong f) (Some Size)) (Some Count)) (Some Width)) (Some Size)) s

  pub by_width : between 2 60000 (length f) ≡ true → (width f ≡ 6 → ⊥) → file_wrong f ≡ Some Width
  by_width s w = sized s ∙ ap (λ (b : Bool). cond b (cond (between 1 32 (count f)) (cond (leb (contents_end f) (length f)) (parts_wrong f) (Some Size)) (Some Count)) (Some Width)) (ne_eqb (width f) 6 w)

  wide : between 2 60000 (length f) ≡ true → width f ≡ 6 → file_wrong f ≡ cond (between 1 32 (count f)) (cond (leb (contents_end f) (length f)) (parts_wrong f) (Some Size)) (Some Count)
  wide s w = sized s ∙ ap (λ (b : Bool). cond b (cond (between 1 32 (count f)) (cond (leb (contents_end f) (length f)) (parts_wrong f) (Some Size)) (Some Count)) (Some Width)) (eq-eqb (width f) 6 w)

  pub by_count : between 2 60000 (length f) ≡ true → width f ≡ 6 → between 1 32 (count f) ≡ false → file_wrong f ≡ Some Count
  by_count s w n = wide s w ∙ ap (λ (b : Bool). cond b (cond (leb (contents_end f) (length f)) (parts_wrong f) (Some Size)) (Some Count)) n

  counted : between 2 60000 (length f) ≡ true → width f ≡ 6 → between 1 32 (count f) ≡ true → file_wrong f ≡ cond (leb (contents_end f) (length f)) (parts_wrong f) (Some Size)
  counted s w n = wide s w ∙ ap (λ (b : Bool). cond b (cond (leb (contents_end f) (length f)) (parts_wrong f) (Some Size)) (Some Count)) n

  pub by_contents : between 2 60000 (length f) ≡ true → width f ≡ 6 → between 1 32 (count f) ≡ true → leb (contents_end f) (length f) ≡ false → file_wrong f ≡ Some Size
  by_contents s w n l = counted s w n ∙ ap (λ (b : Bool). cond b (parts_wrong f) (Some Size)) l

  pub by_parts : between 2 60000 (length f) ≡ true → width f ≡ 6 → between 1 32 (count f) ≡ true → leb (contents_end f) (length f) ≡ true → file_wrong f ≡ parts_wrong f
  by_parts s w n l = counted s w n ∙ ap (λ (b : Bool). cond b (parts_wrong f) (Some Size)) l

pub other_width : (f : List ℕ) → OtherWidth f
other_width f low high other = by_width f (ap (λ (b : Bool). b && leb (length f) 60000) (le-leb 2 (length f) low) ∙ le-leb (length f) 60000 high) other
