-- Clean readings are all there, and give the body back.
use Rattle.std.specs.Prelude.{◌≡◌, ℕ, suc, ◌+◌, ◌<◌, ◌≤◌, Bool, true, false, cond, ◌&&◌, List, [], ◌∷◌, ◌++◌, map, length, take, drop, set, is_some, Some, None, Ok, Err, Option, slice_index_or, slice_set, refl}
use Rattle.std.proofs.Common.{sym, ap, ◌∙◌, inr, arith}
use Rattle.std.proofs.lemmas.List.{take_more, at_drop_more, length-take-le, length-map}
use Rattle.std.specs.Option.{unwrap_or}
use Rattle.stack.specs.declared.fault.Fault.TheVariants.{Other}
use Rattle.stack.specs.Buffers.{padded}
use Rattle.stack.specs.Rules.{Receives, CarrierRule}
use Rattle.stack.specs.Bodies.{set-padded}
use Rattle.samples.specs.Erased.{present, values, erasing}

pub present_all : (m : List ℕ) → present (map Some m) ≡ true
unfolding present
present_all [] = refl
present_all (x ∷ m) = present_all m

pub values_all : (m : List ℕ) → values (map Some m) ≡ m
unfolding values
values_all [] = refl
values_all (x ∷ m) = ap (λ l. x ∷ l) (values_all m)

pub length-values : (rs : List (Option ℕ)) → length (values rs) ≡ length rs
unfolding values
length-values [] = refl
length-values (r ∷ rs) = ap suc (length-values rs)

pub values_push : (rs : List (Option ℕ)) (v : ℕ) → values (rs ++ Some v ∷ []) ≡ values rs ++ v ∷ []
unfolding values
values_push [] v = refl
values_push (r ∷ rs) v = ap (λ l. unwrap_or r 0 ∷ l) (values_push rs v)

kept : (b : Bool) (n : ℕ) (x : List ℕ) → length x ≡ n → Receives (erasing n) (cond b (Ok (record { body = x; counts = record { symbols = 0; bytes = 0 } })) (Err (record { depth = 0; fault = Other 1 0 })))
kept true n x h = record { body = h; symbols = omega arith; bytes = omega arith }
kept false n x h = record { number = inr (inr (omega arith)); depth = omega arith }

pub erasing_rule : (n : ℕ) → 1 ≤ n → n ≤ 98304 → CarrierRule (erasing n)
erasing_rule n low high = record {
  body = record { low = low; high = high };
  air = record { low = low; high = high };
  height_low = omega arith;
  height_high = omega arith;
  need_low = omega arith;
  need_high = high;
  sent_length = λ x h. h;
  clean_length = λ m h. length-map m Some ∙ h;
  receives = λ rs h. kept (present rs) n (values rs) (length-values rs ∙ h);
  returns = λ x h b i. cond (present_all x i) (Ok (record { body = values_all x i; counts = record { symbols = 0; bytes = 0 } })) (Err (record { depth = 0; fault = Other 1 0 }));
}

-- what a choice between a body and a refusal gives, where it is known whether every reading is there
pub chosen : {A : Type 0} (b c : Bool) (x y : A) → b ≡ c → cond b x y ≡ cond c x y
chosen b c x y e = ap (λ z. cond z x y) e

-- one reading more

pub at_none : (rs : List (Option ℕ)) (i : ℕ) (d : Option ℕ) → i < length rs → slice_index_or rs i d ≡ None → present (drop i rs) ≡ present rs → false ≡ present rs
unfolding present
at_none rs i d h e k = sym (at_drop_more present rs i d h ∙ ap (λ r. is_some r && present (drop (i + 1) rs)) e) ∙ k

pub at_some : (rs : List (Option ℕ)) (i : ℕ) (d : Option ℕ) (v : ℕ) → i < length rs → slice_index_or rs i d ≡ Some v → present (drop i rs) ≡ present rs → present (drop (i + 1) rs) ≡ present rs
unfolding present
at_some rs i d v h e k = sym (at_drop_more present rs i d h ∙ ap (λ r. is_some r && present (drop (i + 1) rs)) e) ∙ k

pub put_some : (rs : List (Option ℕ)) (i : ℕ) (d : Option ℕ) (v m : ℕ) (to : List ℕ) → i < length rs → length rs ≤ m → slice_index_or rs i d ≡ Some v → to ≡ padded m (values (take i rs))
    → slice_set to i v ≡ padded m (values (take (i + 1) rs))
put_some rs i d v m to h l e k =
    ap (λ x. set x i v) k ∙ set-padded i m v (values (take i rs)) (length-values (take i rs) ∙ length-take-le i rs (omega arith)) (omega arith)
    ∙ ap (padded m) (sym (values_push (take i rs) v) ∙ ap (λ r. values (take i rs ++ r ∷ [])) (sym e) ∙ ap values (sym (take_more rs i d h)))
