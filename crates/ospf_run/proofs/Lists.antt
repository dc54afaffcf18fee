-- Lists that go along with each other.
use Rattle.std.proofs.Common.{◌≡◌, ◌∙◌, ap, sym, subst, refl, ◌+◌, ◌<◌, ℕ, suc, List, [], ◌∷◌, ◌++◌, All, length, take, drop, get_or, add-one, length-append, map, append_assoc}
use Rattle.std.proofs.lemmas.List.{take_more, append-nil, map-append}
use Rattle.std.proofs.lemmas.List.Elements.{All-cons, All-nil, All-append}
use Rattle.std.proofs.Math.Seq.{drop-cons}
use Rattle.std.specs.Prelude.{Option}
use Rattle.std.specs.List.{AllZip}
use Rattle.ospf_config.specs.declared.config.Config.{Config}
use Rattle.ospf_drive.specs.Driven.{IsDriven, Outcome as Driven}
use Rattle.ospf_drive.specs.Machines.{Rules}
use Rattle.ospf_drive.specs.Moments.{Moment}
use Rattle.ospf_drive.specs.Traffic.Carried.{Ticks}
use Rattle.ospf_drive.proofs.Jobs.{of_first, of_later}
use Rattle.ospf_drive.proofs.Joined.{pairs_then}
use Rattle.ospf_base.specs.declared.ids.Addr.{Addr}
use Rattle.ospf_files.specs.declared.files.NamedFile.{NamedFile}
use Rattle.ospf_fib.specs.PrefixIndex.Known.{Known}
use Rattle.ospf_run.specs.Lookups.{IsFrom}
use Rattle.ospf_run.specs.Runs.{AreOutcomes, BeginsRun, IsOutcome, RouterRan, RoutersRan, Terms}
use Rattle.ospf_run.specs.declared.outcome.Outcome.{Outcome}
use Rattle.ospf_run.specs.declared.look.RouterSeat.{RouterSeat}

-- the front of a list, with one more
pub front_more : {A : Type 0} (xs : List A) (i : ℕ) (x : A) → i < length xs → x ≡ get_or xs i x → take (i + 1) xs ≡ take i xs ++ x ∷ []
front_more xs i x within is = take_more xs i x within ∙ ap (λ last. take i xs ++ last ∷ []) (sym is)

-- one pair more
pub pairs_more : {A B : Type 0} (P : A → B → Type 0) (xs : List A) (i : ℕ) (x : A) (ys more : List B) (y : B) → i < length xs → x ≡ get_or xs i x
    → AllZip P (take i xs) ys → P x y → more ≡ ys ++ y ∷ [] → AllZip P (take (i + 1) xs) more
pairs_more {A} {B} P xs i x ys more y within is pairs pair more_is =
    subst (λ (zs : List B). AllZip P (take (i + 1) xs) zs) (sym more_is)
    (subst (λ (zs : List A). AllZip P zs (ys ++ y ∷ [])) (sym (front_more xs i x within is)) (pairs_then P (take i xs) ys x y pairs pair))

-- one pair more, at the ends of both
pub pairs_both : {A B : Type 0} (P : A → B → Type 0) (xs xs' : List A) (ys ys' : List B) (x : A) (y : B) → AllZip P xs ys → P x y
    → xs' ≡ xs ++ x ∷ [] → ys' ≡ ys ++ y ∷ [] → AllZip P xs' ys'
pairs_both {A} {B} P xs xs' ys ys' x y pairs pair more_x more_y =
    subst (λ (zs : List B). AllZip P xs' zs) (sym more_y) (subst (λ (zs : List A). AllZip P zs (ys ++ y ∷ [])) (sym more_x) (pairs_then P xs ys x y pairs pair))

pub all_more : {A : Type 0} (P : A → Type 0) (xs xs' : List A) (x : A) → All P xs → P x → xs' ≡ xs ++ x ∷ [] → All P xs'
all_more {A} P xs xs' x all here more = subst (λ (zs : List A). All P zs) (sym more) (All-append P xs (x ∷ []) all (All-cons P x [] here (All-nil P)))

pub one_more : {A : Type 0} (xs xs' : List A) (x : A) (n : ℕ) → xs' ≡ xs ++ x ∷ [] → length xs ≡ n → length xs' ≡ n + 1
one_more xs xs' x n more count = ap (λ zs. length zs) more ∙ length-append xs (x ∷ []) ∙ ap (λ m. m + 1) count

-- the one list is as long as the other
pub as_many : {A B : Type 0} (P : A → B → Type 0) (xs : List A) (ys : List B) → AllZip P xs ys → length xs ≡ length ys
as_many P [] [] ps = refl
as_many P [] (y ∷ ys) ps = absurd ps
as_many P (x ∷ xs) [] ps = absurd ps
as_many P (x ∷ xs) (y ∷ ys) ps = ap (λ (n : ℕ). suc n) (as_many P xs ys ps.1)

-- what holds of each of the one list holds of its partner
pub all_paired : {A B : Type 0} (R : A → B → Type 0) (P : A → Type 0) (Q : B → Type 0) (xs : List A) (ys : List B) → ((x : A) (y : B) → R x y → P x → Q y) → AllZip R xs ys → All P xs → All Q ys
all_paired R P Q [] [] then pairs all = All-nil Q
all_paired R P Q [] (y ∷ ys) then pairs all = absurd pairs
all_paired R P Q (x ∷ xs) [] then pairs all = absurd pairs
all_paired R P Q (x ∷ xs) (y ∷ ys) then pairs all =
    All-cons Q y ys (then x y pairs.0 (of_first P (x ∷ xs) xs x refl all)) (all_paired R P Q xs ys then pairs.1 (of_later P (x ∷ xs) xs x refl all))

-- what has begun is over the first of what there is, and the rest is left
pub over_more : {J W : Type 0} (f : J → W) (all : List W) (jobs more : List J) (left later : List W) (job : J) (wire : W) → map f jobs ++ left ≡ all
    → left ≡ wire ∷ later → f job ≡ wire → more ≡ jobs ++ job ∷ [] → map f more ++ later ≡ all
over_more {J} {W} f all jobs more left later job wire over step same more_is =
    ap (λ (xs : List J). map f xs ++ later) more_is ∙ ap (λ (xs : List W). xs ++ later) (map-append f jobs (job ∷ []))
    ∙ append_assoc (map f jobs) (f job ∷ []) later ∙ ap (λ (x : W). map f jobs ++ x ∷ later) same ∙ ap (λ (xs : List W). map f jobs ++ xs) (sym step) ∙ over

-- and all of it, where nothing is left
pub over_all : {J W : Type 0} (f : J → W) (all : List W) (jobs : List J) (left : List W) → map f jobs ++ left ≡ all → length left ≡ 0 → map f jobs ≡ all
over_all f all jobs [] over none = sym (append-nil (map f jobs)) ∙ over
over_all f all jobs (w ∷ left) over none = cc

-- what holds of all wires holds of the wires of all jobs
pub all_over : {J W : Type 0} (f : J → W) (P : W → Type 0) (jobs : List J) (wires : List W) → map f jobs ≡ wires → All P wires → All (λ job. P (f job)) jobs
all_over {J} {W} f P jobs wires over all = go jobs (subst (λ (ws : List W). All P ws) (sym over) all)
  where
    go : (js : List J) → All P (map f js) → All (λ job. P (f job)) js
    go [] h = All-nil (λ job. P (f job))
    go (j ∷ js) h = All-cons (λ job. P (f job)) j js (of_first P (f j ∷ map f js) (map f js) (f j) refl h) (go js (of_later P (f j ∷ map f js) (map f js) (f j) refl h))

-- what began and what came of it, router by router
pub routers_ran_of : (rules : Rules) {J : Type 0} (begins : J → Moment) (terms : Terms) (configs : List Config) (jobs : List J) (drivens : List Driven) (seats : List Known) (router_seats : List RouterSeat)
    → AllZip (λ config job. BeginsRun terms.floor config (begins job).router (begins job).known) configs jobs → All (λ job. (begins job).traffic ≡ Ticks 0 terms.span) jobs → AllZip (λ job driven. IsDriven rules (begins job) driven) jobs drivens
    → AllZip (λ job seat. seat ≡ (begins job).known) jobs seats → AllZip IsFrom seats router_seats → RoutersRan rules terms configs drivens router_seats
routers_ran_of rules begins terms [] [] [] [] [] p n q r s = tt
routers_ran_of rules begins terms [] [] [] [] (l ∷ ls) p n q r s = absurd s
routers_ran_of rules begins terms [] [] [] (k ∷ ks) ls p n q r s = absurd r
routers_ran_of rules begins terms [] [] (d ∷ ds) ks ls p n q r s = absurd q
routers_ran_of rules begins terms [] (j ∷ js) ds ks ls p n q r s = absurd p
routers_ran_of rules begins terms (c ∷ cs) [] ds ks ls p n q r s = absurd p
routers_ran_of rules begins terms (c ∷ cs) (j ∷ js) [] ks ls p n q r s = absurd q
routers_ran_of rules begins terms (c ∷ cs) (j ∷ js) (d ∷ ds) [] ls p n q r s = absurd r
routers_ran_of rules begins terms (c ∷ cs) (j ∷ js) (d ∷ ds) (k ∷ ks) [] p n q r s = absurd s
routers_ran_of rules begins terms (c ∷ cs) (j ∷ js) (d ∷ ds) (k ∷ ks) (l ∷ ls) p n q r s =
    (record { a = begins j; begins = p.0; counted = of_first (λ job. (begins job).traffic ≡ Ticks 0 terms.span) (j ∷ js) js j refl n; ended = q.0; looks = subst (λ (known : Known). IsFrom known l) r.0 s.0 }, routers_ran_of rules begins terms cs js ds ks ls p.1 (of_later (λ job. (begins job).traffic ≡ Ticks 0 terms.span) (j ∷ js) js j refl n) q.1 r.1 s.1)

-- one of each list is taken off what is left
pub taken_off : {rules : Rules} (terms : Terms) (configs : List Config) (i : ℕ) (config : Config) (drivens later_drivens : List Driven) (driven : Driven) (router_seats later_seats : List RouterSeat) (router_seat : RouterSeat)
    → i < length configs → config ≡ get_or configs i config → drivens ≡ driven ∷ later_drivens → router_seats ≡ router_seat ∷ later_seats
    → RoutersRan rules terms (drop i configs) drivens router_seats → RouterRan rules terms config driven router_seat × RoutersRan rules terms (drop (i + 1) configs) later_drivens later_seats
taken_off {rules} terms configs i config ds ds' d ls ls' l within is ds_are ls_are all_ran =
    let split : drop i configs ≡ config ∷ drop (i + 1) configs =
    drop-cons configs i config within ∙ ap (λ x. x ∷ drop (suc i) configs) (sym is) ∙ ap (λ n. config ∷ drop n configs) (sym (add-one i)) in
    subst (λ (cs : List Config). RoutersRan rules terms cs (d ∷ ds') (l ∷ ls')) split
    (subst (λ (xs : List Driven). RoutersRan rules terms (drop i configs) xs (l ∷ ls')) ds_are (subst (λ (ys : List RouterSeat). RoutersRan rules terms (drop i configs) ds ys) ls_are all_ran))

-- there are as many of each
pub as_long : (rules : Rules) (terms : Terms) (configs : List Config) (drivens : List Driven) (router_seats : List RouterSeat) → RoutersRan rules terms configs drivens router_seats
    → (length drivens ≡ length configs) × (length router_seats ≡ length configs)
as_long rules terms [] [] [] all_ran = (refl, refl)
as_long rules terms [] [] (l ∷ ls) all_ran = absurd all_ran
as_long rules terms [] (d ∷ ds) ls all_ran = absurd all_ran
as_long rules terms (c ∷ cs) [] ls all_ran = absurd all_ran
as_long rules terms (c ∷ cs) (d ∷ ds) [] all_ran = absurd all_ran
as_long rules terms (c ∷ cs) (d ∷ ds) (l ∷ ls) all_ran =
    let long = as_long rules terms cs ds ls all_ran.1 in (ap (λ (n : ℕ). suc n) long.0, ap (λ (n : ℕ). suc n) long.1)

outcomes_then : {rules : Rules} (lookup : Option Addr) (terms : Terms) (files : List NamedFile) (configs : List Config) (outcomes : List Outcome) (file : NamedFile) (config : Config) (outcome : Outcome)
    → AreOutcomes rules lookup terms files configs outcomes → IsOutcome rules lookup terms file config outcome
    → AreOutcomes rules lookup terms (files ++ file ∷ []) (configs ++ config ∷ []) (outcomes ++ outcome ∷ [])
outcomes_then {rules} lookup terms [] [] [] file config outcome are is = (is, tt)
outcomes_then {rules} lookup terms [] [] (o ∷ os) file config outcome are is = absurd are
outcomes_then {rules} lookup terms [] (c ∷ cs) os file config outcome are is = absurd are
outcomes_then {rules} lookup terms (f ∷ fs) [] os file config outcome are is = absurd are
outcomes_then {rules} lookup terms (f ∷ fs) (c ∷ cs) [] file config outcome are is = absurd are
outcomes_then {rules} lookup terms (f ∷ fs) (c ∷ cs) (o ∷ os) file config outcome are is = (are.0, outcomes_then lookup terms fs cs os file config outcome are.1 is)

-- one outcome more
pub outcomes_more : {rules : Rules} (lookup : Option Addr) (terms : Terms) (files : List NamedFile) (configs : List Config) (outcomes more : List Outcome) (i : ℕ) (file : NamedFile) (config : Config)
    (outcome : Outcome) → i < length files → file ≡ get_or files i file → i < length configs → config ≡ get_or configs i config
    → AreOutcomes rules lookup terms (take i files) (take i configs) outcomes → IsOutcome rules lookup terms file config outcome → more ≡ outcomes ++ outcome ∷ []
    → AreOutcomes rules lookup terms (take (i + 1) files) (take (i + 1) configs) more
outcomes_more {rules} lookup terms files configs outcomes more i file config outcome in_files file_is in_configs config_is are is more_is =
    subst (λ (os : List Outcome). AreOutcomes rules lookup terms (take (i + 1) files) (take (i + 1) configs) os) (sym more_is)
    (subst (λ (cs : List Config). AreOutcomes rules lookup terms (take (i + 1) files) cs (outcomes ++ outcome ∷ [])) (sym (front_more configs i config in_configs config_is))
    (subst (λ (fs : List NamedFile). AreOutcomes rules lookup terms fs (take i configs ++ config ∷ []) (outcomes ++ outcome ∷ [])) (sym (front_more files i file in_files file_is))
    (outcomes_then lookup terms (take i files) (take i configs) outcomes file config outcome are is)))
