-- Facts of what is read step by step.
use Rattle.std.proofs.Common.{Option, Some, None, option_map, ok_or, IfSome, Result, Ok, Err, IfOk}
use Rattle.text_values.specs.Steps.{◌>>=◌}

pub ok-then : {X Y E : Type 0} (r : Result X E) (f : X → Result Y E) (P : X → Type 0) (Q : Y → Type 0) → IfOk r P → ((x : X) → P x → IfOk (f x) Q) → IfOk (r >>= f) Q
ok-then (Ok x) f P Q h so = so x h
ok-then (Err e) f P Q h so = tt

pub ok-any : {X E : Type 0} (r : Result X E) → IfOk r (λ _. Unit {0})
ok-any (Ok x) = tt
ok-any (Err e) = tt

pub ok-weaker : {X E : Type 0} (r : Result X E) (P Q : X → Type 0) → ((x : X) → P x → Q x) → IfOk r P → IfOk r Q
ok-weaker (Ok x) P Q so h = so x h
ok-weaker (Err e) P Q so h = tt

pub ok-some : {X E : Type 0} (o : Option X) (e : E) (P : X → Type 0) → IfSome o P → IfOk (ok_or o e) P
ok-some (Some x) e P h = h
ok-some None e P h = tt

pub some-mapped : {X Y : Type 0} (f : X → Y) (P : X → Type 0) (Q : Y → Type 0) → ((x : X) → P x → Q (f x)) → (o : Option X) → IfSome o P → IfSome (option_map f o) Q
some-mapped f P Q so (Some x) h = so x h
some-mapped f P Q so None h = tt

pub some-any : {X Y : Type 0} (f : X → Y) (Q : Y → Type 0) → ((x : X) → Q (f x)) → (o : Option X) → IfSome (option_map f o) Q
some-any f Q so (Some x) = so x
some-any f Q so None = tt
