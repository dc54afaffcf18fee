-- The instances of a retransmission list by key, and a list that has no entry of a key.
use Rattle.std.proofs.Common.{◌≡◌, ◌⊎◌, ◌&&◌, ◌||◌, ◌==◌, ◌∙◌, ◌++◌, ◌<◌, ◌+◌, ℕ, Bool, true, false, cond, not, List, [], ◌∷◌, length, map, filter, take, get_or, inl, inr, refl, sym, ap, subst, if◌then◌else◌, Option, Some, None, is_some, option_map, find, zero, suc, arith}
use Rattle.std.specs.List.{AllByRecursion, list_any, position, position_from}
use Rattle.std.proofs.lemmas.Bool.{false≢true}
use Rattle.std.proofs.lemmas.List.{append-nil, take_more}
use Rattle.std.proofs.lemmas.Iterator.Adapters.{position_from-zero}
use Rattle.std.proofs.lemmas.List.Folds.{list_any_at}
use Rattle.std.proofs.lemmas.List.Quantifiers.{position-Some}
use Rattle.ospf_base.specs.Instances.{same_instance}
use Rattle.ospf_base.specs.Keys.{ls_type, same_key}
use Rattle.ospf_base.specs.contracts.ids.KindPartialEq.TheImpl as kind_partial_eq
use Rattle.ospf_base.specs.declared.ids.Instance.{Instance}
use Rattle.ospf_base.specs.declared.ids.Kind.{Kind}
use Rattle.ospf_base.specs.declared.ids.Kind.TheVariants.{Router, Network}
use Rattle.ospf_base.specs.declared.ids.LsaKey.{LsaKey}
use Rattle.ospf_base.proofs.SameKeys.{same_instance-eq, same_key-eq, same_key-refl, same_key-turned}
use Rattle.ospf_neighbour.specs.Lists.{TellsInstances, is_key_listed, is_listed, is_of_instance, key_eq, sent_again, without_instance, without_key}
use Rattle.ospf_neighbour.proofs.Words.{instance_of, is_of_key}
use Rattle.ospf_neighbour.specs.OneAKey.{IsAloneOfKeys}
use Rattle.ospf_neighbour.specs.declared.neighbour.Listed.{Listed}

-- ---- one key

kind_eq-same : (a b : Kind) → (kind_partial_eq.ghosts).eq a b ≡ (ls_type a == ls_type b)
kind_eq-same Router Router = refl
kind_eq-same Router Network = refl
kind_eq-same Network Router = refl
kind_eq-same Network Network = refl

-- keys that a set takes for one are one
pub key_eq-same : (a b : LsaKey) → key_eq a b ≡ same_key a b
unfolding same_key
key_eq-same a b = let k = kind_eq-same a.kind b.kind in rw k (assoc (ls_type a.kind == ls_type b.kind) (a.id == b.id) (a.router.0 == b.router.0))
  where
    assoc : (p q s : Bool) → p && (q && s) ≡ (p && q) && s
    assoc true q s = refl
    assoc false q s = refl

-- ---- nothing of a key

kept_if : {X : Type 0} (b more : Bool) (x : X) (xs kept : List X) → b || more ≡ false → (more ≡ false → kept ≡ xs) → cond (not b) (x ∷ kept) kept ≡ x ∷ xs
kept_if true more x xs kept none rest = absurd (false≢true (sym none))
kept_if {X} false more x xs kept none rest = ap (λ (l : List X). x ∷ l) (rest none)

-- what is not there does not leave
pub none_leaves : {X : Type 0} (p : X → Bool) (xs : List X) → list_any p xs ≡ false → filter (λ x. not (p x)) xs ≡ xs
none_leaves p [] none = refl
none_leaves p (x ∷ xs) none = kept_if (p x) (list_any p xs) x xs (filter (λ y. not (p y)) xs) none (none_leaves p xs)

no_key_leaves : (key : LsaKey) (ls : List Listed) → is_key_listed key ls ≡ false → ls ≡ without_key key ls
no_key_leaves key ls none = sym (none_leaves (is_of_key key) ls none)

no_instance_leaves : (i : Instance) (ls : List Listed) → is_listed i ls ≡ false → ls ≡ without_instance i ls
no_instance_leaves i ls none = sym (none_leaves (is_of_instance i) ls none)

no_instance_if : (k x y more rest : Bool) → k || more ≡ false → (more ≡ false → rest ≡ false) → ((k && x) && y) || rest ≡ false
no_instance_if true x y more rest none f = absurd (false≢true (sym none))
no_instance_if false x y more rest none f = f none

-- without the key there is no instance
pub no_instance : (i : Instance) (ls : List Listed) → is_key_listed i.key ls ≡ false → is_listed i ls ≡ false
unfolding same_instance
no_instance i [] none = refl
no_instance i (l ∷ ls) none = no_instance_if (same_key l.instance.key i.key) _ _ (is_key_listed i.key ls) (is_listed i ls) none (no_instance i ls)

pub neither : (a b : Bool) → a || b ≡ false → (a ≡ false) × (b ≡ false)
neither true b is = absurd (false≢true (sym is))
neither false b is = (refl, is)

no_place : {X : Type 0} (p : X → Bool) (k : ℕ) (xs : List X) → list_any p xs ≡ false → position_from p k xs ≡ None
no_place p k [] none = refl
no_place p k (x ∷ xs) none = let s = neither (p x) (list_any p xs) none in rw s.0 (no_place p (k + 1) xs s.1)

pub no_position : {X : Type 0} (p : X → Bool) (xs : List X) → list_any p xs ≡ false → position p xs ≡ None
no_position p xs none = position_from-zero p xs ∙ no_place p 0 xs none

any_if : (b more : Bool) (k : ℕ) (place : Option ℕ) → cond b (Some k) place ≡ None → (place ≡ None → more ≡ false) → b || more ≡ false
any_if true more k place none rest = absurd (cc)
any_if false more k place none rest = rest none

none_any : {X : Type 0} (p : X → Bool) (k : ℕ) (xs : List X) → position_from p k xs ≡ None → list_any p xs ≡ false
none_any p k [] none = refl
none_any p k (x ∷ xs) none = any_if (p x) (list_any p xs) k (position_from p (k + 1) xs) none (none_any p (k + 1) xs)

pub nowhere : {X : Type 0} (p : X → Bool) (xs : List X) → position p xs ≡ None → list_any p xs ≡ false
nowhere p xs none = none_any p 0 xs (sym (position_from-zero p xs) ∙ none)

pub no_place_leaves : (i : Instance) (ls : List Listed) → position (is_of_instance i) ls ≡ None → ls ≡ without_instance i ls
no_place_leaves i ls none = no_instance_leaves i ls (nowhere (is_of_instance i) ls none)

-- ---- an instance that is alone of its key

bool_cases : (b : Bool) → (b ≡ true) ⊎ (b ≡ false)
bool_cases true = inl refl
bool_cases false = inr refl

or_false : (b more : Bool) → b || more ≡ true → b ≡ false → more ≡ true
or_false true more is not_it = absurd (false≢true (sym not_it))
or_false false more is not_it = is

-- a key that is apart from all is apart from what is listed
apart_listed : (key : LsaKey) (i : Instance) (ls : List Listed) → AllByRecursion (λ (o : Listed). same_key key o.instance.key ≡ false) ls → is_listed i ls ≡ true
    → same_key key i.key ≡ false
apart_listed key i [] all is = absurd (false≢true is)
apart_listed key i (l ∷ ls) all is = elim (bool_cases (is_of_instance i l)) [
  | inl here ↦ subst (λ (j : Instance). same_key key j.key ≡ false) (same_instance-eq l.instance i here) all.0
  | inr other ↦ apart_listed key i ls all.1 (or_false (is_of_instance i l) (is_listed i ls) is other)
]

none_of_key : (key : LsaKey) (ls : List Listed) → AllByRecursion (λ (o : Listed). same_key key o.instance.key ≡ false) ls → is_key_listed key ls ≡ false
none_of_key key [] all = refl
none_of_key key (l ∷ ls) all = let first = same_key-turned l.instance.key key ∙ all.0 in let more = none_of_key key ls all.1 in rw (first, more) refl

dropped : (a b : Bool) (l : Listed) (xs ys : List Listed) → a ≡ true → b ≡ true → xs ≡ ys → cond (not a) (l ∷ xs) xs ≡ cond (not b) (l ∷ ys) ys
dropped a b l xs ys p q r = rw (p, q) r

kept : (a b : Bool) (l : Listed) (xs ys : List Listed) → a ≡ false → b ≡ false → xs ≡ ys → cond (not a) (l ∷ xs) xs ≡ cond (not b) (l ∷ ys) ys
kept a b l xs ys p q r = rw (p, q) (ap (λ (k : List Listed). l ∷ k) r)

-- it leaves as its key does
pub alone_leaves : (i : Instance) (ls : List Listed) → IsAloneOfKeys ls → is_listed i ls ≡ true → without_key i.key ls ≡ without_instance i ls
alone_leaves i [] alone is = refl
alone_leaves i (l ∷ ls) alone is = elim (bool_cases (is_of_instance i l)) [
  | inl here ↦
      let same = same_instance-eq l.instance i here in
      let all = subst (λ (j : Instance). AllByRecursion (λ (o : Listed). same_key j.key o.instance.key ≡ false) ls) same alone.0 in
      let none = none_of_key i.key ls all in
      dropped (is_of_key i.key l) (is_of_instance i l) l (without_key i.key ls) (without_instance i ls)
      (subst (λ (j : Instance). same_key j.key i.key ≡ true) (sym same) (same_key-refl i.key)) here
      (sym (no_key_leaves i.key ls none) ∙ no_instance_leaves i ls (no_instance i ls none))
  | inr other ↦
      let more = or_false (is_of_instance i l) (is_listed i ls) is other in
      kept (is_of_key i.key l) (is_of_instance i l) l (without_key i.key ls) (without_instance i ls)
      (apart_listed l.instance.key i ls alone.0 more) other (alone_leaves i ls alone.1 more)
]

pub place_listed : (i : Instance) (ls : List Listed) (at : ℕ) (d : Listed) → position (is_of_instance i) ls ≡ Some at → is_listed i ls ≡ true
place_listed i ls at d found =
    let p = position-Some (is_of_instance i) ls at d found in
    list_any_at (is_of_instance i) ls at d p.0 p.1

pub cond_not : (b x : Bool) → not b && x ≡ cond b false x
cond_not true x = refl
cond_not false x = refl

-- ---- the instances of a list by key

named : (b : Bool) (l : Listed) (o : Option Listed) → option_map (λ (x : Listed). x.instance) (cond b (Some l) o) ≡ cond b (Some l.instance) (option_map (λ (x : Listed). x.instance) o)
named true l o = refl
named false l o = refl

instance_of-step : (q : LsaKey) (l : Listed) (ls : List Listed) → instance_of q (l ∷ ls) ≡ cond (is_of_key q l) (Some l.instance) (instance_of q ls)
instance_of-step q l ls = named (is_of_key q l) l (find (is_of_key q) ls)

some_if : (b more : Bool) (i : Instance) (o : Option Instance) → more ≡ is_some o → b || more ≡ is_some (cond b (Some i) o)
some_if true more i o is = refl
some_if false more i o is = is

-- a key is listed where an instance of it is told
pub key_told : (q : LsaKey) (ls : List Listed) → is_key_listed q ls ≡ is_some (instance_of q ls)
key_told q [] = refl
key_told q (l ∷ ls) = some_if (is_of_key q l) (is_key_listed q ls) l.instance (instance_of q ls) (key_told q ls) ∙ ap is_some (sym (instance_of-step q l ls))

or_none : (b more : Bool) → more ≡ false → b || more ≡ b
or_none true more none = refl
or_none false more none = none

other_instance : (i : Instance) (l : Listed) → is_of_key i.key l ≡ false → is_of_instance i l ≡ false
other_instance i l other = (neither (is_of_instance i l) false (no_instance i (l ∷ []) (ap (λ (b : Bool). b || false) other))).0

is_the_one : (b : Bool) (i j : Instance) (o : Option Instance) → b ≡ true → cond b (Some i) o ≡ Some j → i ≡ j
is_the_one true i j o here is = cc
is_the_one false i j o here is = absurd (false≢true here)

is_of_the_rest : (b : Bool) (i : Instance) (o p : Option Instance) → b ≡ false → cond b (Some i) o ≡ p → o ≡ p
is_of_the_rest true i o p other is = absurd (false≢true (sym other))
is_of_the_rest false i o p other is = is

-- an instance is listed where it is the one that is told of its key
pub listed_told : (i j : Instance) (ls : List Listed) → IsAloneOfKeys ls → instance_of i.key ls ≡ Some j → is_listed i ls ≡ same_instance j i
listed_told i j [] alone is = absurd (cc)
listed_told i j (l ∷ ls) alone is =
    let told = sym (instance_of-step i.key l ls) ∙ is in
    elim (bool_cases (is_of_key i.key l)) [
      | inl here ↦
          let all = subst (λ (k : LsaKey). AllByRecursion (λ (o : Listed). same_key k o.instance.key ≡ false) ls) (same_key-eq l.instance.key i.key here) alone.0 in
          or_none (is_of_instance i l) (is_listed i ls) (no_instance i ls (none_of_key i.key ls all))
          ∙ ap (λ (k : Instance). same_instance k i) (is_the_one (is_of_key i.key l) l.instance j (instance_of i.key ls) here told)
      | inr other ↦
          ap (λ (b : Bool). b || is_listed i ls) (other_instance i l other)
          ∙ listed_told i j ls alone.1 (is_of_the_rest (is_of_key i.key l) l.instance (instance_of i.key ls) (Some j) other told)
    ]

pub unlisted_told : (i : Instance) (ls : List Listed) → instance_of i.key ls ≡ None → is_listed i ls ≡ false
unlisted_told i ls none = no_instance i ls (key_told i.key ls ∙ ap is_some none)

-- of two tests at most one holds
either_first : (a b : Bool) (x y z : Option Instance) → (a ≡ true → b ≡ false) → cond a x (cond b y z) ≡ cond b y (cond a x z)
either_first true true x y z apart = absurd (false≢true (sym (apart refl)))
either_first true false x y z apart = refl
either_first false b x y z apart = refl

asked_twice : (a b : Bool) (x y z : Option Instance) → a ≡ b → cond b x z ≡ cond b x (cond a y z)
asked_twice true true x y z same = refl
asked_twice true false x y z same = absurd (false≢true (sym same))
asked_twice false true x y z same = absurd (false≢true same)
asked_twice false false x y z same = refl

left_out : (b : Bool) (l : Listed) (kept es : List Listed) → b ≡ true → cond (not b) (l ∷ kept) kept ++ es ≡ kept ++ es
left_out true l kept es is = refl
left_out false l kept es is = absurd (false≢true is)

left_in : (b : Bool) (l : Listed) (kept es : List Listed) → b ≡ false → cond (not b) (l ∷ kept) kept ++ es ≡ l ∷ (kept ++ es)
left_in true l kept es is = absurd (false≢true (sym is))
left_in false l kept es is = refl

-- what is put behind the list without a key tells of that key alone
instance_of-put : (key q : LsaKey) (w : Option Instance) (es ls : List Listed) → instance_of q es ≡ cond (key_eq key q) w None
    → instance_of q (without_key key ls ++ es) ≡ cond (key_eq key q) w (instance_of q ls)
instance_of-put key q w es [] is = is
instance_of-put key q w es (l ∷ ls) is =
    let more = instance_of-put key q w es ls is in
    let rest = without_key key ls in
    elim (bool_cases (is_of_key key l)) [
      | inl here ↦
          let same : is_of_key q l ≡ key_eq key q = ap (λ (k : LsaKey). same_key k q) (same_key-eq l.instance.key key here) ∙ sym (key_eq-same key q) in
          ap (instance_of q) (left_out (is_of_key key l) l rest es here) ∙ more
          ∙ asked_twice (is_of_key q l) (key_eq key q) w (Some l.instance) (instance_of q ls) same
          ∙ ap (cond (key_eq key q) w) (sym (instance_of-step q l ls))
      | inr other ↦
          ap (instance_of q) (left_in (is_of_key key l) l rest es other) ∙ instance_of-step q l (rest ++ es)
          ∙ ap (cond (is_of_key q l) (Some l.instance)) more
          ∙ either_first (is_of_key q l) (key_eq key q) (Some l.instance) w (instance_of q ls)
          (λ one. key_eq-same key q ∙ same_key-turned key q ∙ subst (λ (k : LsaKey). same_key k key ≡ false) (same_key-eq l.instance.key q one) other)
          ∙ ap (cond (key_eq key q) w) (sym (instance_of-step q l ls))
    ]

either_way : (b : Bool) (o : Option Instance) → o ≡ cond b o o
either_way true o = refl
either_way false o = refl

-- the key is taken off
pub TellsInstances-remove : (tells now : LsaKey → Option Instance) (key : LsaKey) (ls : List Listed) → TellsInstances tells ls
    → ((q : LsaKey) → now q ≡ cond (key_eq key q) None (tells q)) → TellsInstances now (without_key key ls)
TellsInstances-remove tells now key ls are new q =
    new q ∙ ap (cond (key_eq key q) None) (are q)
    ∙ sym (ap (instance_of q) (sym (append-nil (without_key key ls))) ∙ instance_of-put key q None [] ls (either_way (key_eq key q) None))

-- an entry takes the place of those of its key
pub TellsInstances-put : (tells now : LsaKey → Option Instance) (e : Listed) (ls : List Listed) → TellsInstances tells ls
    → ((q : LsaKey) → now q ≡ cond (key_eq e.instance.key q) (Some e.instance) (tells q)) → TellsInstances now (without_key e.instance.key ls ++ e ∷ [])
TellsInstances-put tells now e ls are new q =
    let key = e.instance.key in
    let last = instance_of-step q e [] ∙ ap (λ (b : Bool). cond b (Some e.instance) None) (sym (key_eq-same key q)) in
    new q ∙ ap (cond (key_eq key q) (Some e.instance)) (are q) ∙ sym (instance_of-put key q (Some e.instance) (e ∷ []) ls last)

sent : (b : Bool) (l : Listed) (tick : ℕ) → (if b then record l { sent_at = tick } else l).instance ≡ l.instance
sent true l tick = refl
sent false l tick = refl

instances_sent : (q : LsaKey) (i : Instance) (tick : ℕ) (ls : List Listed) → instance_of q (map (sent_again i tick) ls) ≡ instance_of q ls
instances_sent q i tick [] = refl
instances_sent q i tick (l ∷ ls) =
    instance_of-step q (sent_again i tick l) (map (sent_again i tick) ls)
    ∙ ap (λ (j : Instance). cond (same_key j.key q) (Some j) (instance_of q (map (sent_again i tick) ls))) (sent (is_of_instance i l) l tick)
    ∙ ap (cond (is_of_key q l) (Some l.instance)) (instances_sent q i tick ls)
    ∙ sym (instance_of-step q l ls)

-- entries are sent again
pub TellsInstances-sent : (tells : LsaKey → Option Instance) (i : Instance) (tick : ℕ) (ls : List Listed) → TellsInstances tells ls → TellsInstances tells (map (sent_again i tick) ls)
TellsInstances-sent tells i tick ls are q = are q ∙ sym (instances_sent q i tick ls)

apart_at : (l : Listed) (ls : List Listed) (n : ℕ) (d : Listed) → AllByRecursion (λ (o : Listed). same_key l.instance.key o.instance.key ≡ false) ls → n < length ls
    → same_key l.instance.key (get_or ls n d).instance.key ≡ false
apart_at l [] n d all within = absurd (omega (arith, within))
apart_at l (o ∷ ls) zero d all within = all.0
apart_at l (o ∷ ls) (suc n) d all within = apart_at l ls n d all.1 (omega (arith, within))

apart_front : (ls : List Listed) (n : ℕ) (d : Listed) → IsAloneOfKeys ls → n < length ls → is_key_listed (get_or ls n d).instance.key (take n ls) ≡ false
apart_front [] n d alone within = absurd (omega (arith, within))
apart_front (l ∷ ls) zero d alone within = refl
apart_front (l ∷ ls) (suc n) d alone within =
    let first = apart_at l ls n d alone.0 (omega (arith, within)) in
    let more = apart_front ls n d alone.1 (omega (arith, within)) in
    rw (first, more) refl

-- one entry more
pub tells_more : (tells now : LsaKey → Option Instance) (n : ℕ) (ls : List Listed) (d : Listed) → IsAloneOfKeys ls → n < length ls → TellsInstances tells (take n ls)
    → ((q : LsaKey) → now q ≡ cond (key_eq (get_or ls n d).instance.key q) (Some (get_or ls n d).instance) (tells q)) → TellsInstances now (take (n + 1) ls)
tells_more tells now n ls d alone within so_far new =
    let e = get_or ls n d in
    let none = no_key_leaves e.instance.key (take n ls) (apart_front ls n d alone within) in
    subst (TellsInstances now) (ap (λ (xs : List Listed). xs ++ e ∷ []) (sym none) ∙ sym (take_more ls n d within)) (TellsInstances-put tells now e (take n ls) so_far new)
