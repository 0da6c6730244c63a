-- What is tested to be the same is the same, and the other way round.
use Rattle.std.proofs.Common.{◌≡◌, ℕ, Bool, true, false, ◌&&◌, eqb, List, [], ◌∷◌, map, Option, Some, None, bytes_eq, refl, sym, ap, ◌∙◌}
use Rattle.std.specs.Bool.{beq}
use Rattle.std.specs.Option.{option_eq}
use Rattle.std.specs.Cmp.Lexicographic.{pointwise}
use Rattle.std.proofs.lemmas.Bool.{and_from, and_parts, eq-eqb, eqb-true}
use Rattle.plain_data.specs.declared.limit.Limit.{Limit}
use Rattle.plain_data.specs.declared.limit.Limit.TheVariants.{Minutes, Unlimited}
use Rattle.plain_data.specs.declared.mem_ask.MemAsk.{MemAsk}
use Rattle.plain_data.specs.declared.mem_ask.MemAsk.TheVariants.{All, PerNode, PerCpu}
use Rattle.plain_data.specs.declared.conf.Settings.{Settings}
use Rattle.plain_data.specs.declared.conf.NodeConf.{NodeConf}
use Rattle.plain_data.specs.declared.conf.NodeStart.{NodeStart}
use Rattle.plain_data.specs.declared.conf.NodeStart.TheVariants as start
use Rattle.plain_data.specs.declared.conf.PartConf.{PartConf}
use Rattle.plain_data.specs.declared.conf.PartState.{PartState}
use Rattle.plain_data.specs.declared.conf.PartState.TheVariants as state
use Rattle.ctl_reconfigure.specs.Reconfiguring.{settings_after}
use Rattle.ctl_reconfigure.specs.Same.{same_admission, same_allowance, same_bounds, same_limit, same_line, same_mem, same_node, same_planning, same_settings, same_standing, same_start, same_state, same_weights}
use Rattle.ctl_reconfigure.proofs.NameLists.{bytes-same, same-bytes}

-- ---- tests, one after the other

pub all4 : (a b c d : Bool) → (a && (b && (c && d))) ≡ true → (a ≡ true) × (b ≡ true) × (c ≡ true) × (d ≡ true)
all4 a b c d all =
    let one = and_parts a (b && (c && d)) all in
    let two = and_parts b (c && d) one.1 in
    let three = and_parts c d two.1 in
    (one.0, two.0, three.0, three.1)

pub all6 : (a b c d e f : Bool) → (a && (b && (c && (d && (e && f))))) ≡ true
    → (a ≡ true) × (b ≡ true) × (c ≡ true) × (d ≡ true) × (e ≡ true) × (f ≡ true)
all6 a b c d e f all =
    let one = and_parts a (b && (c && (d && (e && f)))) all in
    let two = and_parts b (c && (d && (e && f))) one.1 in
    let rest = all4 c d e f two.1 in
    (one.0, two.0, rest.0, rest.1, rest.2, rest.3)

pub from4 : (a b c d : Bool) → a ≡ true → b ≡ true → c ≡ true → d ≡ true → (a && (b && (c && d))) ≡ true
from4 a b c d one two three four =
    and_from a (b && (c && d)) one (and_from b (c && d) two (and_from c d three four))

pub from6 : (a b c d e f : Bool) → a ≡ true → b ≡ true → c ≡ true → d ≡ true → e ≡ true → f ≡ true
    → (a && (b && (c && (d && (e && f))))) ≡ true
from6 a b c d e f one two three four five six =
    and_from a (b && (c && (d && (e && f)))) one
    (and_from b (c && (d && (e && f))) two (from4 c d e f three four five six))

-- ---- plain values

bool-same : (one other : Bool) → beq one other ≡ true → one ≡ other
bool-same true true same = refl
bool-same false false same = refl
bool-same true false same = absurd (let never = same in cc)
bool-same false true same = absurd (let never = same in cc)

same-bool : (one : Bool) → beq one one ≡ true
same-bool true = refl
same-bool false = refl

same-number : (one : ℕ) → eqb one one ≡ true
same-number one = eq-eqb one one refl

own-name : (one : List ℕ) → bytes_eq one one ≡ true
own-name one = same-bytes one one refl

mem-same : (one other : MemAsk) → same_mem one other ≡ true → one ≡ other
mem-same All All same = refl
mem-same (PerNode one) (PerNode other) same = ap PerNode (eqb-true one other same)
mem-same (PerCpu one) (PerCpu other) same = ap PerCpu (eqb-true one other same)
mem-same one other same = absurd (let never = same in cc)

same-mem : (one : MemAsk) → same_mem one one ≡ true
same-mem All = refl
same-mem (PerNode one) = same-number one
same-mem (PerCpu one) = same-number one

limit-same : (one other : Limit) → same_limit one other ≡ true → one ≡ other
limit-same (Minutes one) (Minutes other) same = ap Minutes (eqb-true one other same)
limit-same Unlimited Unlimited same = refl
limit-same one other same = absurd (let never = same in cc)

same-limit : (one : Limit) → same_limit one one ≡ true
same-limit (Minutes one) = same-number one
same-limit Unlimited = refl

start-same : (one other : NodeStart) → same_start one other ≡ true → one ≡ other
start-same start.Unknown start.Unknown same = refl
start-same start.Down start.Down same = refl
start-same start.Drain start.Drain same = refl
start-same one other same = absurd (let never = same in cc)

same-start : (one : NodeStart) → same_start one one ≡ true
same-start start.Unknown = refl
same-start start.Down = refl
same-start start.Drain = refl

pub state-same : (one other : PartState) → same_state one other ≡ true → one ≡ other
state-same state.Up state.Up same = refl
state-same state.Down state.Down same = refl
state-same state.Drain state.Drain same = refl
state-same state.Inactive state.Inactive same = refl
state-same one other same = absurd (let never = same in cc)

pub same-state : (one : PartState) → same_state one one ≡ true
same-state state.Up = refl
same-state state.Down = refl
same-state state.Drain = refl
same-state state.Inactive = refl

-- ---- options and lists

option-same : {X : Type 0} (E : X → X → Bool) → ((x y : X) → E x y ≡ true → x ≡ y) → (one other : Option X)
    → option_eq E one other ≡ true → one ≡ other
option-same E is None None same = refl
option-same E is (Some x) (Some y) same = ap Some (is x y same)
option-same E is None (Some y) same = absurd (let never = same in cc)
option-same E is (Some x) None same = absurd (let never = same in cc)

same-option : {X : Type 0} (E : X → X → Bool) → ((x : X) → E x x ≡ true) → (one : Option X)
    → option_eq E one one ≡ true
same-option E is None = refl
same-option E is (Some x) = is x

-- the members of one list are made of those of another
pub list-same : {X Y : Type 0} (E : X → Y → Bool) (f : X → Y) → ((x : X) (y : Y) → E x y ≡ true → f x ≡ y)
    → (xs : List X) (ys : List Y) → pointwise E xs ys ≡ true → map f xs ≡ ys
list-same E f is [] [] same = refl
list-same E f is [] (y ∷ ys) same = absurd (let never = same in cc)
list-same E f is (x ∷ xs) [] same = absurd (let never = same in cc)
list-same E f is (x ∷ xs) (y ∷ ys) same =
    let both = and_parts (E x y) (pointwise E xs ys) same in
    let here = is x y both.0 in
    let later = list-same E f is xs ys both.1 in
    λ i. here i ∷ later i

-- and those of the other of these
pub list-made : {X Y : Type 0} (E : X → Y → Bool) (f : Y → X) → ((x : X) (y : Y) → E x y ≡ true → x ≡ f y)
    → (xs : List X) (ys : List Y) → pointwise E xs ys ≡ true → xs ≡ map f ys
list-made E f is [] [] same = refl
list-made E f is [] (y ∷ ys) same = absurd (let never = same in cc)
list-made E f is (x ∷ xs) [] same = absurd (let never = same in cc)
list-made E f is (x ∷ xs) (y ∷ ys) same =
    let both = and_parts (E x y) (pointwise E xs ys) same in
    let here = is x y both.0 in
    let later = list-made E f is xs ys both.1 in
    λ i. here i ∷ later i

pub same-list : {X Y : Type 0} (E : X → Y → Bool) (f : Y → X) → ((y : Y) → E (f y) y ≡ true)
    → (ys : List Y) → pointwise E (map f ys) ys ≡ true
same-list E f is [] = refl
same-list E f is (y ∷ ys) = and_from (E (f y) y) (pointwise E (map f ys) ys) (is y) (same-list E f is ys)

pub names-same : (one other : List (List ℕ)) → pointwise bytes_eq one other ≡ true → one ≡ other
names-same [] [] same = refl
names-same [] (y ∷ ys) same = absurd (let never = same in cc)
names-same (x ∷ xs) [] same = absurd (let never = same in cc)
names-same (x ∷ xs) (y ∷ ys) same =
    let both = and_parts (bytes_eq x y) (pointwise bytes_eq xs ys) same in
    let here = bytes-same x y both.0 in
    let later = names-same xs ys both.1 in
    λ i. here i ∷ later i

own-names : (one : List (List ℕ)) → pointwise bytes_eq one one ≡ true
own-names [] = refl
own-names (x ∷ xs) = and_from (bytes_eq x x) (pointwise bytes_eq xs xs) (own-name x) (own-names xs)

pub numbers-same : (one other : List ℕ) → pointwise eqb one other ≡ true → one ≡ other
numbers-same one other same = bytes-same one other same

pub own-numbers : (one : List ℕ) → pointwise eqb one one ≡ true
own-numbers one = own-name one

-- ---- lines of nodes

pub node-same : (one other : NodeConf) → same_node one other ≡ true → one ≡ other
node-same one other same =
    let all = all6 (bytes_eq one.name other.name) (eqb one.cpus other.cpus) (eqb one.mem other.mem)
    (eqb one.weight other.weight) (pointwise bytes_eq one.features other.features) (same_start one.state other.state) same in
    let name = bytes-same one.name other.name all.0 in
    let cpus = eqb-true one.cpus other.cpus all.1 in
    let mem = eqb-true one.mem other.mem all.2 in
    let weight = eqb-true one.weight other.weight all.3 in
    let features = names-same one.features other.features all.4 in
    let start = start-same one.state other.state all.5 in
    λ i. record { name = name i; cpus = cpus i; mem = mem i; weight = weight i; features = features i; state = start i }

pub same-node : (one : NodeConf) → same_node one one ≡ true
same-node one =
    from6 (bytes_eq one.name one.name) (eqb one.cpus one.cpus) (eqb one.mem one.mem) (eqb one.weight one.weight)
    (pointwise bytes_eq one.features one.features) (same_start one.state one.state)
    (own-name one.name) (same-number one.cpus) (same-number one.mem) (same-number one.weight)
    (own-names one.features) (same-start one.state)

-- ---- lines of partitions

pub line-same : (one other : PartConf) → same_line one other ≡ true → one ≡ other
line-same one other same =
    let first = and_parts (same_standing one other) (same_allowance one other && same_admission one other) same in
    let rest = and_parts (same_allowance one other) (same_admission one other) first.1 in
    let standing = all6 (bytes_eq one.name other.name) (pointwise bytes_eq one.nodes other.nodes)
    (beq one.is_default other.is_default) (same_state one.state other.state) (eqb one.factor other.factor)
    (eqb one.tier other.tier) first.0 in
    let allowance = all6 (same_limit one.max_time other.max_time)
    (option_eq same_limit one.default_time other.default_time) (eqb one.min_nodes other.min_nodes)
    (option_eq eqb one.max_nodes other.max_nodes) (beq one.exclusive other.exclusive)
    (option_eq same_mem one.mem_default other.mem_default) rest.0 in
    let admission = and_parts (option_eq (pointwise bytes_eq) one.accounts other.accounts)
    (option_eq (pointwise bytes_eq) one.qos other.qos) rest.1 in
    let name = bytes-same one.name other.name standing.0 in
    let nodes = names-same one.nodes other.nodes standing.1 in
    let is_default = bool-same one.is_default other.is_default standing.2 in
    let stands = state-same one.state other.state standing.3 in
    let factor = eqb-true one.factor other.factor standing.4 in
    let tier = eqb-true one.tier other.tier standing.5 in
    let max_time = limit-same one.max_time other.max_time allowance.0 in
    let default_time = option-same same_limit limit-same one.default_time other.default_time allowance.1 in
    let min_nodes = eqb-true one.min_nodes other.min_nodes allowance.2 in
    let max_nodes = option-same eqb eqb-true one.max_nodes other.max_nodes allowance.3 in
    let exclusive = bool-same one.exclusive other.exclusive allowance.4 in
    let mem_default = option-same same_mem mem-same one.mem_default other.mem_default allowance.5 in
    let accounts = option-same (pointwise bytes_eq) names-same one.accounts other.accounts admission.0 in
    let qos = option-same (pointwise bytes_eq) names-same one.qos other.qos admission.1 in
    λ i. record {
      name = name i;
      nodes = nodes i;
      is_default = is_default i;
      max_time = max_time i;
      default_time = default_time i;
      state = stands i;
      factor = factor i;
      tier = tier i;
      min_nodes = min_nodes i;
      max_nodes = max_nodes i;
      accounts = accounts i;
      qos = qos i;
      exclusive = exclusive i;
      mem_default = mem_default i;
    }

pub same-line : (one : PartConf) → same_line one one ≡ true
same-line one =
    let standing = from6 (bytes_eq one.name one.name) (pointwise bytes_eq one.nodes one.nodes)
    (beq one.is_default one.is_default) (same_state one.state one.state) (eqb one.factor one.factor)
    (eqb one.tier one.tier) (own-name one.name) (own-names one.nodes) (same-bool one.is_default)
    (same-state one.state) (same-number one.factor) (same-number one.tier) in
    let allowance = from6 (same_limit one.max_time one.max_time)
    (option_eq same_limit one.default_time one.default_time) (eqb one.min_nodes one.min_nodes)
    (option_eq eqb one.max_nodes one.max_nodes) (beq one.exclusive one.exclusive)
    (option_eq same_mem one.mem_default one.mem_default) (same-limit one.max_time)
    (same-option same_limit same-limit one.default_time) (same-number one.min_nodes)
    (same-option eqb same-number one.max_nodes) (same-bool one.exclusive)
    (same-option same_mem same-mem one.mem_default) in
    let admission = and_from (option_eq (pointwise bytes_eq) one.accounts one.accounts)
    (option_eq (pointwise bytes_eq) one.qos one.qos) (same-option (pointwise bytes_eq) own-names one.accounts)
    (same-option (pointwise bytes_eq) own-names one.qos) in
    and_from (same_standing one one) (same_allowance one one && same_admission one one) standing
    (and_from (same_allowance one one) (same_admission one one) allowance admission)

-- ---- settings

pub settings-same : (one other : Settings) → same_settings one other ≡ true → settings_after one other ≡ one
settings-same one other same =
    let first = and_parts (same_bounds one other) (same_weights one other && same_planning one other) same in
    let rest = and_parts (same_weights one other) (same_planning one other) first.1 in
    let bounds = all6 (eqb one.max_job_count other.max_job_count) (eqb one.max_array_size other.max_array_size)
    (eqb one.min_job_age other.min_job_age) (eqb one.slurmd_timeout other.slurmd_timeout)
    (beq one.job_requeue other.job_requeue) (bytes_eq one.slurm_user other.slurm_user) first.0 in
    let weights = all6 (eqb one.max_age other.max_age) (eqb one.weight_age other.weight_age)
    (eqb one.weight_fairshare other.weight_fairshare) (eqb one.weight_job_size other.weight_job_size)
    (eqb one.weight_partition other.weight_partition) (eqb one.weight_qos other.weight_qos) rest.0 in
    let planning = all4 (eqb one.bf_window other.bf_window) (eqb one.bf_interval other.bf_interval)
    (option_eq same_mem one.mem_default other.mem_default) (beq one.preempt other.preempt) rest.1 in
    let max_job_count = eqb-true one.max_job_count other.max_job_count bounds.0 in
    let max_array_size = eqb-true one.max_array_size other.max_array_size bounds.1 in
    let min_job_age = eqb-true one.min_job_age other.min_job_age bounds.2 in
    let slurmd_timeout = eqb-true one.slurmd_timeout other.slurmd_timeout bounds.3 in
    let job_requeue = bool-same one.job_requeue other.job_requeue bounds.4 in
    let slurm_user = bytes-same one.slurm_user other.slurm_user bounds.5 in
    let max_age = eqb-true one.max_age other.max_age weights.0 in
    let weight_age = eqb-true one.weight_age other.weight_age weights.1 in
    let weight_fairshare = eqb-true one.weight_fairshare other.weight_fairshare weights.2 in
    let weight_job_size = eqb-true one.weight_job_size other.weight_job_size weights.3 in
    let weight_partition = eqb-true one.weight_partition other.weight_partition weights.4 in
    let weight_qos = eqb-true one.weight_qos other.weight_qos weights.5 in
    let bf_window = eqb-true one.bf_window other.bf_window planning.0 in
    let bf_interval = eqb-true one.bf_interval other.bf_interval planning.1 in
    let mem_default = option-same same_mem mem-same one.mem_default other.mem_default planning.2 in
    let preempt = bool-same one.preempt other.preempt planning.3 in
    let made : one ≡ settings_after one other = λ i. record {
      first_job_id = one.first_job_id;
      max_job_count = max_job_count i;
      max_array_size = max_array_size i;
      min_job_age = min_job_age i;
      slurmd_timeout = slurmd_timeout i;
      job_requeue = job_requeue i;
      slurm_user = slurm_user i;
      max_age = max_age i;
      weight_age = weight_age i;
      weight_fairshare = weight_fairshare i;
      weight_job_size = weight_job_size i;
      weight_partition = weight_partition i;
      weight_qos = weight_qos i;
      bf_window = bf_window i;
      bf_interval = bf_interval i;
      mem_default = mem_default i;
      preempt = preempt i;
    } in
    sym made

pub same-settings : (one other : Settings) → settings_after one other ≡ one → same_settings one other ≡ true
same-settings one other is = ap (λ (made : Settings). same_settings made other) (sym is) ∙ own other
  where
    own : (other : Settings) → same_settings other other ≡ true
    own other =
        let bounds = from6 (eqb other.max_job_count other.max_job_count) (eqb other.max_array_size other.max_array_size)
        (eqb other.min_job_age other.min_job_age) (eqb other.slurmd_timeout other.slurmd_timeout)
        (beq other.job_requeue other.job_requeue) (bytes_eq other.slurm_user other.slurm_user)
        (same-number other.max_job_count) (same-number other.max_array_size) (same-number other.min_job_age)
        (same-number other.slurmd_timeout) (same-bool other.job_requeue) (own-name other.slurm_user) in
        let weights = from6 (eqb other.max_age other.max_age) (eqb other.weight_age other.weight_age)
        (eqb other.weight_fairshare other.weight_fairshare) (eqb other.weight_job_size other.weight_job_size)
        (eqb other.weight_partition other.weight_partition) (eqb other.weight_qos other.weight_qos)
        (same-number other.max_age) (same-number other.weight_age) (same-number other.weight_fairshare)
        (same-number other.weight_job_size) (same-number other.weight_partition) (same-number other.weight_qos) in
        let planning = from4 (eqb other.bf_window other.bf_window) (eqb other.bf_interval other.bf_interval)
        (option_eq same_mem other.mem_default other.mem_default) (beq other.preempt other.preempt)
        (same-number other.bf_window) (same-number other.bf_interval)
        (same-option same_mem same-mem other.mem_default) (same-bool other.preempt) in
        and_from (same_bounds other other) (same_weights other other && same_planning other other) bounds
        (and_from (same_weights other other) (same_planning other other) weights planning)
