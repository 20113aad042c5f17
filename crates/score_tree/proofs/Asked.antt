-- What `ok_or` was asked of.
use Rattle.std.specs.Prelude.{Option, Some, None, Result, Ok, Err}
use Rattle.std.specs.Option.{ok_or}
use mathlib.Core.Path.{◌≡◌, refl}

pub ok_some : {A E : Type 0} (o : Option A) (e : E) {r : Result A E} {x : A} → r ≡ ok_or o e → r ≡ Ok x → o ≡ Some x
ok_some None e h k = cc
ok_some (Some y) e h k = cc

pub err_none : {A E : Type 0} (o : Option A) (e : E) {y : E} {r : Result A E} → r ≡ ok_or o e → r ≡ Err y → (o ≡ None) × (y ≡ e)
err_none None e h k = (refl, cc)
err_none (Some y) e h k = cc
