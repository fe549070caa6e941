-- Outcomes that leave a sound state, in which no symbol and no package is lost, and a value that may be stored.
--     Goods      what is said of an outcome: P holds of its value in its packages
--     goods_also, goods_then, goods_kind, goods_if, goods_option, goods_here, goods_state      how outcomes are put together
use Rattle.std.proofs.Common.{◌≡◌, Bool, true, false, cond, Option, Some, None, Ok, Err, refl}
use Rattle.std.specs.Option.{option_map_or}
use Rattle.package_table.specs.Table as packages
use Rattle.package_table.specs.Growth.{Grows}
use Rattle.package_table.proofs.Growing.{grows_same, grows_both}
use Rattle.plist_state.specs.State.{WorldState}
use Rattle.plist_state.specs.Sound.{IsSoundWorldState}
use Rattle.lisp_operators.specs.Evaluation.{Evaluation, Done, also, and_then, of_kind}

pub record IsGood {A : Type 0} (P : packages.Table → A → Type 0) (s : WorldState) (d : Done A) : Type 0 where
  pub sound : IsSoundWorldState d.state
  pub grows : Grows s.packages d.state.packages
  pub value : P d.state.packages d.value

abbrev pub GoodWhere : {A : Type 0} → (packages.Table → A → Type 0) → WorldState → Evaluation A → Type 0
GoodWhere P s (Ok d) = IsGood P s d
GoodWhere P s (Err code) = Unit {0}

pub record Goods {A : Type 0} (P : packages.Table → A → Type 0) (s : WorldState) (o : Evaluation A) : Type 0 where
  pub good : GoodWhere P s o

module _ {A : Type 0} (P : packages.Table → A → Type 0) (s : WorldState) where
  pub goods_here : (x : A) (wrote : Bool) → IsSoundWorldState s → P s.packages x → Goods P s (Ok (record { value = x; state = s; wrote = wrote }))
  goods_here x wrote sound fits = record { good = record { sound = sound; grows = grows_same s.packages; value = fits } }

  pub goods_state : (x : A) (t : WorldState) (wrote : Bool) → IsSoundWorldState t → Grows s.packages t.packages → P t.packages x → Goods P s (Ok (record { value = x; state = t; wrote = wrote }))
  goods_state x t wrote sound grows fits = record { good = record { sound = sound; grows = grows; value = fits } }

  pub goods_also : (wrote : Bool) (t : WorldState) (o : Evaluation A) → Grows s.packages t.packages → Goods P t o → Goods P s (also wrote o)
  goods_also wrote t (Ok d) grows after = record { good = record { sound = after.good.sound; grows = grows_both s.packages t.packages d.state.packages grows after.good.grows; value = after.good.value } }
  goods_also wrote t (Err code) grows after = record { good = tt }

  pub goods_if : (b : Bool) (x y : Evaluation A) → (b ≡ true → Goods P s x) → (b ≡ false → Goods P s y) → Goods P s (cond b x y)
  goods_if true x y first second = first refl
  goods_if false x y first second = second refl

  pub goods_kind : {X : Type 0} (o : Option X) (on : X → Evaluation A) → ((x : X) → o ≡ Some x → Goods P s (on x)) → Goods P s (of_kind o on)
  goods_kind (Some x) on each = each x refl
  goods_kind None on each = record { good = tt }

  pub goods_option : {X : Type 0} (o : Option X) (on : X → Evaluation A) (other : Evaluation A) → ((x : X) → o ≡ Some x → Goods P s (on x)) → Goods P s other → Goods P s (option_map_or on o other)
  goods_option (Some x) on other each none = each x refl
  goods_option None on other each none = none

pub goods_then : {A B : Type 0} (P : packages.Table → A → Type 0) (Q : packages.Table → B → Type 0) (s : WorldState) (o : Evaluation A) (next : A → WorldState → Evaluation B)
    → Goods P s o → ((x : A) (t : WorldState) → IsSoundWorldState t → Grows s.packages t.packages → P t.packages x → Goods Q t (next x t)) → Goods Q s (and_then o next)
goods_then P Q s (Ok d) next before after =
    goods_also Q s d.wrote d.state (next d.value d.state) before.good.grows (after d.value d.state before.good.sound before.good.grows before.good.value)
goods_then P Q s (Err code) next before after = record { good = tt }
