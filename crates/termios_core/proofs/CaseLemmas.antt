-- What a test, or a step that may fail, gave.
use Rattle.std.proofs.Common.{◌≡◌, Bool, true, false, cond, ◌&&◌, ◌⊎◌, inl, inr, Option, Some, None, option_map, refl}
use Rattle.std.specs.Prelude.{IfSome, option_and_then}

pub both : (a b : Bool) → (a && b) ≡ true → (a ≡ true) × (b ≡ true)
both true true e = (refl, refl)
both true false e = absurd cc
both false b e = absurd cc

pub is_false : (b : Bool) → (b ≡ true → ⊥) → b ≡ false
is_false true never = absurd (never refl)
is_false false never = refl

pub choice_cases : {X : Type 0} (b : Bool) (x y z : X) → cond b x y ≡ z → ((b ≡ true) × (x ≡ z)) ⊎ ((b ≡ false) × (y ≡ z))
choice_cases true x y z e = inl (refl, e)
choice_cases false x y z e = inr (refl, e)

pub none_of_choice : {X : Type 0} (b : Bool) (x : X) → (b ≡ true → ⊥) → cond b (Some x) None ≡ None
none_of_choice true x never = absurd (never refl)
none_of_choice false x never = refl

pub some_of_choice : {X : Type 0} (b : Bool) (x y : X) → cond b (Some x) None ≡ Some y → (b ≡ true) × (x ≡ y)
some_of_choice true x y e = (refl, cc)
some_of_choice false x y e = absurd cc

abbrev one : {X : Type 0} → X → Option X
one x = Some x

pub some_is : {X : Type 0} (x y : X) → one x ≡ one y → x ≡ y
some_is x y e = cc

pub some_of_map : {X Y : Type 0} (f : X → Y) (o : Option X) (y : Y) → option_map f o ≡ Some y → (x : X) × (o ≡ Some x) × (y ≡ f x)
some_of_map f None y e = absurd cc
some_of_map f (Some x) y e = (x, refl, cc)

pub some_of_step : {X Y : Type 0} (f : X → Option Y) (o : Option X) (y : Y) → option_and_then f o ≡ Some y → (x : X) × (o ≡ Some x) × (f x ≡ Some y)
some_of_step f None y e = absurd cc
some_of_step f (Some x) y e = (x, refl, e)

pub if_some : {X : Type 0} (o : Option X) (P : X → Type 0) → ((x : X) → o ≡ Some x → P x) → IfSome o P
if_some None P h = tt
if_some (Some x) P h = h x refl
