-- Nothing is due of any key, where nothing is due of those that are wanted and those that are numbered.
use Rattle.std.proofs.Common.{◌≡◌, ◌&&◌, ◌||◌, ◌++◌, Bool, true, false, not, List, [], ◌∷◌, is_some, Option, None, Some, refl, sym, ap, ◌∙◌, subst, if◌then◌else◌}
use Rattle.std.specs.List.{AllByRecursion, list_all, list_any}
use Rattle.std.proofs.lemmas.Bool.{false≢true}
use Rattle.std.proofs.lemmas.Option.{none-some, same_Some}
use Rattle.ospf_base.specs.Keys.{same_key}
use Rattle.ospf_base.proofs.SameKeys.{same_key-eq}
use Rattle.ospf_base.specs.declared.ids.LsaKey.{LsaKey}
use Rattle.ospf_base.specs.declared.ids.RouterId.{RouterId}
use Rattle.ospf_lsdb.specs.Database.{Entry}
use Rattle.ospf_area.specs.Numbers.{is_own}
use Rattle.ospf_area.specs.Outputs.{OutputsValue}
use Rattle.ospf_area.specs.State.{AreaValue, LinkValue, database_entry, kept_number, numbering_of}
use Rattle.ospf_area.specs.declared.state.Numbering.{Numbering}
use Rattle.ospf_originate.specs.Actions.{is_due, next_action, own_action, unwanted_action, wanted_action}
use Rattle.ospf_originate.specs.Idle.{IsIdle, is_left, is_quiet, key_left, network_left, none_heard, own_router, unwanted_left, wanted_left}
use Rattle.ospf_originate.specs.Numbers.{waits}
use Rattle.ospf_originate.specs.Sound.{AreApart, AreNumbered}
use Rattle.ospf_lsdb.specs.Moments.{among}
use Rattle.ospf_originate.specs.Steps.{OwnLsas, action_of, wants}
use Rattle.ospf_originate.specs.Wants.Wanted.{WantedValue, is_dr_of, network_of, wanted_lsas, wanted_key, wanted_of}
use Rattle.ospf_originate.specs.declared.action.OwnAction.{OwnAction}
use Rattle.ospf_originate.specs.declared.action.OwnAction.TheVariants.{Leave, Flush, Issue}
use Rattle.ospf_originate.proofs.DueLemmas.{left_alone}
use Rattle.ospf_originate.proofs.Wants.WantedLemmas.{networks, networks-step, one_if, wanted_alone}

-- ---- one key

left_is : (a : OwnAction) → is_left a ≡ true → a ≡ Leave
left_is Leave is = refl
left_is Flush is = absurd (false≢true is)
left_is (Issue number) is = absurd (false≢true is)

left_if : (b : Bool) (a : OwnAction) → is_left (if b then a else Leave) ≡ (not b || is_left a)
left_if true a = refl
left_if false a = refl

not_both : (waiting due : Bool) → (waiting || not due) ≡ not (not waiting && due)
not_both true due = refl
not_both false due = refl

-- a wanted LSA, from what is known of it
pub wanted_left_is : (s : AreaValue) (w : WantedValue) (key : LsaKey) (copy : Option Entry) (due result : Bool) → key ≡ wanted_key w → copy ≡ database_entry s key → due ≡ is_due w copy
    → result ≡ ((waits s.tick s.numbering key || not due) || is_left (next_action copy (kept_number s key))) → result ≡ wanted_left s w
unfolding wanted_left
wanted_left_is s w key copy due result of_key of_copy of_due is =
    let waiting = waits s.tick s.numbering key in
    let kept = kept_number s key in
    is ∙ ap (λ (d : Bool). (waiting || not d) || is_left (next_action copy kept)) of_due
    ∙ ap (λ (b : Bool). b || is_left (next_action copy kept)) (not_both waiting (is_due w copy))
    ∙ sym (left_if (not waiting && is_due w copy) (next_action copy kept))
    ∙ ap (λ (o : Option Entry). is_left (wanted_action w o false waiting kept)) of_copy
    ∙ ap (λ (k : LsaKey). is_left (wanted_action w (database_entry s k) false (waits s.tick s.numbering k) (kept_number s k))) of_key

-- ---- what is wanted of a key

first_or : (t : Bool) (w : WantedValue) (o : Option WantedValue) → is_some (if t then Some w else o) ≡ (t || is_some o)
first_or true w o = refl
first_or false w o = refl

-- the key is that of the network-LSA of a link, and this is wanted
abbrev pub is_network : RouterId → LsaKey → LinkValue → Bool
is_network router key l = is_dr_of l && same_key (wanted_key (network_of router l)) key

some_if : (key : LsaKey) (b : Bool) (w : WantedValue) (ws : List WantedValue) → is_some (wanted_of (one_if b w ++ ws) key) ≡ (b && same_key (wanted_key w) key) || is_some (wanted_of ws key)
unfolding one_if
some_if key true w ws = first_or (same_key (wanted_key w) key) w (wanted_of ws key)
some_if key false w ws = refl

some_network_wanted : (router : RouterId) (links : List LinkValue) (key : LsaKey) → is_some (wanted_of (networks router links) key) ≡ list_any (is_network router key) links
some_network_wanted router [] key = refl
some_network_wanted router (l ∷ ls) key =
    ap (λ (ws : List WantedValue). is_some (wanted_of ws key)) (networks-step router l ls)
    ∙ some_if key (is_dr_of l) (network_of router l) (networks router ls)
    ∙ ap (λ (b : Bool). is_network router key l || b) (some_network_wanted router ls key)

or_true : (a b : Bool) → a ≡ true → a ≡ (a || b)
or_true true b is = refl
or_true false b is = absurd (false≢true is)

or_false : (a b : Bool) → a ≡ false → b ≡ (a || b)
or_false false b is = refl
or_false true b is = absurd (false≢true (sym is))

is_wanted_is : (s : AreaValue) (key : LsaKey) → (same_key (wanted_key (own_router s)) key || list_any (is_network s.router key) s.links) ≡ is_some (wanted_of (wants s) key)
unfolding wanted_lsas
is_wanted_is s key =
    ap (λ (b : Bool). same_key (wanted_key (own_router s)) key || b) (sym (some_network_wanted s.router s.links key))
    ∙ sym (first_or (same_key (wanted_key (own_router s)) key) (own_router s) (wanted_of (networks s.router s.links) key))

-- found at the router-LSA, or else among the network-LSAs
pub wanted_first : (s : AreaValue) (key : LsaKey) (first : Bool) → first ≡ same_key (wanted_key (own_router s)) key → first ≡ true → first ≡ is_some (wanted_of (wants s) key)
wanted_first s key first is one =
    or_true first (list_any (is_network s.router key) s.links) one
    ∙ ap (λ (b : Bool). b || list_any (is_network s.router key) s.links) is ∙ is_wanted_is s key

pub wanted_later : (s : AreaValue) (key : LsaKey) (first later : Bool) → first ≡ same_key (wanted_key (own_router s)) key → first ≡ false
    → later ≡ list_any (is_network s.router key) s.links → later ≡ is_some (wanted_of (wants s) key)
wanted_later s key first later is never of_links =
    or_false first later never ∙ ap (λ (b : Bool). b || later) is ∙ ap (λ (b : Bool). same_key (wanted_key (own_router s)) key || b) of_links ∙ is_wanted_is s key

-- which of two is asked first is the same
pub either : (a b : Bool) → (a || b) ≡ (b || a)
either true true = refl
either true false = refl
either false true = refl
either false false = refl

-- ---- all keys

both_true : (a b : Bool) → (a && b) ≡ true → (a ≡ true) × (b ≡ true)
both_true true b is = (refl, is)
both_true false b is = absurd (false≢true is)

left_of : (p : WantedValue → Bool) (b : Bool) (w : WantedValue) (ws : List WantedValue) → list_all p (one_if b w ++ ws) ≡ (not b || p w) && list_all p ws
unfolding one_if
left_of p true w ws = refl
left_of p false w ws = refl

all_networks_left : (p : WantedValue → Bool) (router : RouterId) (links : List LinkValue) → list_all p (networks router links) ≡ list_all (λ l. not (is_dr_of l) || p (network_of router l)) links
all_networks_left p router [] = refl
all_networks_left p router (l ∷ ls) =
    ap (list_all p) (networks-step router l ls) ∙ left_of p (is_dr_of l) (network_of router l) (networks router ls)
    ∙ ap (λ (b : Bool). (not (is_dr_of l) || p (network_of router l)) && b) (all_networks_left p router ls)

all_wanted : (s : AreaValue) → list_all (wanted_left s) (wants s) ≡ (wanted_left s (own_router s) && list_all (network_left s) s.links)
unfolding wanted_lsas
all_wanted s = ap (λ (b : Bool). wanted_left s (own_router s) && b) (all_networks_left (wanted_left s) s.router s.links)

-- one that is found is one of all, and of the key
record IsFound (p : WantedValue → Bool) (key : LsaKey) (w : WantedValue) : Type 0 where
  holds : p w ≡ true
  of_key : wanted_key w ≡ key

found : (p : WantedValue → Bool) (ws : List WantedValue) (key : LsaKey) (w : WantedValue) → list_all p ws ≡ true → wanted_of ws key ≡ Some w → IsFound p key w
found p [] key w all is = absurd (none-some w is)
found p (x ∷ xs) key w all is = by_test (same_key (wanted_key x) key) refl (found p xs key w (both_true (p x) (list_all p xs) all).1) is
  where
    by_test : (b : Bool) → same_key (wanted_key x) key ≡ b → (wanted_of xs key ≡ Some w → IsFound p key w) → (if b then Some x else wanted_of xs key) ≡ Some w → IsFound p key w
    by_test true same later e = subst (λ (v : WantedValue). IsFound p key v) (same_Some x w e) (record { holds = (both_true (p x) (list_all p xs) all).0; of_key = same_key-eq (wanted_key x) key same })
    by_test false same later e = later e

found_numbered : (p : LsaKey → Bool) (ns : List Numbering) (key : LsaKey) (n : Numbering) → list_all (λ m. p m.key) ns ≡ true → numbering_of ns key ≡ Some n → p key ≡ true
found_numbered p [] key n all is = absurd (none-some n is)
found_numbered p (x ∷ xs) key n all is = by_test (same_key x.key key) refl (found_numbered p xs key n (both_true (p x.key) (list_all (λ m. p m.key) xs) all).1) is
  where
    by_test : (b : Bool) → same_key x.key key ≡ b → (numbering_of xs key ≡ Some n → p key ≡ true) → (if b then Some x else numbering_of xs key) ≡ Some n → p key ≡ true
    by_test true same later e = subst (λ (k : LsaKey). p k ≡ true) (same_key-eq x.key key same) (both_true (p x.key) (list_all (λ m. p m.key) xs) all).0
    by_test false same later e = later e

unheard_is : (heard : List LsaKey) → none_heard heard ≡ true → heard ≡ []
unfolding none_heard
unheard_is [] is = refl
unheard_is (k ∷ ks) is = absurd (false≢true is)

-- the action of a key that is wanted, and of one that is not, where none was heard
wanted_action_is : (s : AreaValue) (key : LsaKey) (w : WantedValue) → s.heard ≡ [] → wanted_of (wants s) key ≡ Some w
    → action_of s key ≡ wanted_action w (database_entry s key) false (waits s.tick s.numbering key) (kept_number s key)
unfolding action_of own_action
wanted_action_is s key w unheard is =
    ap (λ (o : Option WantedValue). own_action o (database_entry s key) (among s.heard key) (is_own s.router key) (waits s.tick s.numbering key) (kept_number s key)) is
    ∙ ap (λ (ks : List LsaKey). wanted_action w (database_entry s key) (list_any (λ k. same_key k key) ks) (waits s.tick s.numbering key) (kept_number s key)) unheard

unwanted_action_is : (s : AreaValue) (key : LsaKey) → s.heard ≡ [] → wanted_of (wants s) key ≡ None → action_of s key ≡ unwanted_action (database_entry s key) false (is_own s.router key)
unfolding action_of own_action
unwanted_action_is s key unheard is =
    ap (λ (o : Option WantedValue). own_action o (database_entry s key) (among s.heard key) (is_own s.router key) (waits s.tick s.numbering key) (kept_number s key)) is
    ∙ ap (λ (ks : List LsaKey). unwanted_action (database_entry s key) (list_any (λ k. same_key k key) ks) (is_own s.router key)) unheard

wanted_rests : (s : AreaValue) (key : LsaKey) (w : WantedValue) → IsFound (wanted_left s) key w
    → wanted_action w (database_entry s key) false (waits s.tick s.numbering key) (kept_number s key) ≡ Leave
unfolding wanted_left
wanted_rests s key w it =
    subst (λ (k : LsaKey). wanted_action w (database_entry s k) false (waits s.tick s.numbering k) (kept_number s k) ≡ Leave) it.of_key (left_is _ it.holds)

unwanted_rests : (s : AreaValue) (key : LsaKey) → wanted_of (wants s) key ≡ None → key_left s key ≡ true → unwanted_action (database_entry s key) false (is_own s.router key) ≡ Leave
unfolding key_left unwanted_left
unwanted_rests s key none is =
    left_is _ (with_false (unwanted_left s key) ∙ ap (λ (o : Option WantedValue). unwanted_left s key || is_some o) (sym none) ∙ is)
  where
    with_false : (b : Bool) → b ≡ (b || false)
    with_false true = refl
    with_false false = refl

unnumbered_rests : (s : AreaValue) (key : LsaKey) → AreNumbered s → numbering_of s.numbering key ≡ None → unwanted_action (database_entry s key) false (is_own s.router key) ≡ Leave
unnumbered_rests s key numbered none =
    left_alone (database_entry s key) (is_own s.router key) (λ there own. false≢true (sym (ap (λ (o : Option Numbering). is_some o) none) ∙ numbered key there own))

pub quiet_idle : (s : AreaValue) → AreNumbered s → is_quiet s ≡ true → IsIdle s
unfolding is_quiet
quiet_idle s numbered quiet =
    let first = both_true (none_heard s.heard) (wanted_left s (own_router s) && (list_all (network_left s) s.links && list_all (λ n. key_left s n.key) s.numbering)) quiet in
    let second = both_true (wanted_left s (own_router s)) (list_all (network_left s) s.links && list_all (λ n. key_left s n.key) s.numbering) first.1 in
    let third = both_true (list_all (network_left s) s.links) (list_all (λ n. key_left s n.key) s.numbering) second.1 in
    let unheard = unheard_is s.heard first.0 in
    let wanted_rest : list_all (wanted_left s) (wants s) ≡ true =
    all_wanted s ∙ ap (λ (b : Bool). b && list_all (network_left s) s.links) second.0 ∙ third.0 in
    record { unheard = unheard; left = λ key. by_wanted s key numbered unheard wanted_rest third.1 (wanted_of (wants s) key) refl }
  where
    by_number : (s : AreaValue) (key : LsaKey) → AreNumbered s → list_all (λ n. key_left s n.key) s.numbering ≡ true → wanted_of (wants s) key ≡ None
        → (o : Option Numbering) → numbering_of s.numbering key ≡ o → unwanted_action (database_entry s key) false (is_own s.router key) ≡ Leave
    by_number s key numbered keys none None is = unnumbered_rests s key numbered is
    by_number s key numbered keys none (Some n) is = unwanted_rests s key none (found_numbered (key_left s) s.numbering key n keys is)

    by_wanted : (s : AreaValue) (key : LsaKey) → AreNumbered s → s.heard ≡ [] → list_all (wanted_left s) (wants s) ≡ true → list_all (λ n. key_left s n.key) s.numbering ≡ true
        → (o : Option WantedValue) → wanted_of (wants s) key ≡ o → action_of s key ≡ Leave
    by_wanted s key numbered unheard wanted_rest keys None is =
        unwanted_action_is s key unheard is ∙ by_number s key numbered keys is (numbering_of s.numbering key) refl
    by_wanted s key numbered unheard wanted_rest keys (Some w) is =
        wanted_action_is s key w unheard is ∙ wanted_rests s key w (found (wanted_left s) (wants s) key w wanted_rest is)

-- ---- and the other way round

wanted_is_left : (s : AreaValue) (w : WantedValue) → IsIdle s → wanted_of (wants s) (wanted_key w) ≡ Some w → wanted_left s w ≡ true
unfolding wanted_left
wanted_is_left s w idle is = ap (λ (a : OwnAction). is_left a) (sym (wanted_action_is s (wanted_key w) w idle.unheard is) ∙ idle.left (wanted_key w))

all_left : (s : AreaValue) (ws : List WantedValue) → IsIdle s → AllByRecursion (λ w. wanted_of (wants s) (wanted_key w) ≡ Some w) ws → list_all (wanted_left s) ws ≡ true
all_left s [] idle all = refl
all_left s (w ∷ ws) idle all = ap (λ (b : Bool). b && list_all (wanted_left s) ws) (wanted_is_left s w idle all.0) ∙ all_left s ws idle all.1

key_is_left : (s : AreaValue) (key : LsaKey) → IsIdle s → (o : Option WantedValue) → wanted_of (wants s) key ≡ o → key_left s key ≡ true
unfolding key_left unwanted_left
key_is_left s key idle None is =
    ap (λ (a : OwnAction). is_left a || is_some (wanted_of (wants s) key)) (sym (unwanted_action_is s key idle.unheard is) ∙ idle.left key)
key_is_left s key idle (Some w) is = ap (λ (o : Option WantedValue). unwanted_left s key || is_some o) is ∙ with_true (unwanted_left s key)
  where
    with_true : (b : Bool) → (b || true) ≡ true
    with_true true = refl
    with_true false = refl

keys_left : (s : AreaValue) (ns : List Numbering) → IsIdle s → list_all (λ n. key_left s n.key) ns ≡ true
keys_left s [] idle = refl
keys_left s (n ∷ ns) idle = ap (λ (b : Bool). b && list_all (λ n. key_left s n.key) ns) (key_is_left s n.key idle (wanted_of (wants s) n.key) refl) ∙ keys_left s ns idle

heard_none : (heard : List LsaKey) → heard ≡ [] → none_heard heard ≡ true
unfolding none_heard
heard_none heard is = ap (λ (ks : List LsaKey). none_heard ks) is

pub idle_quiet : (s : AreaValue) → AreApart s.links → IsIdle s → is_quiet s ≡ true
unfolding is_quiet
idle_quiet s apart idle =
    let all = both_true (wanted_left s (own_router s)) (list_all (network_left s) s.links) (sym (all_wanted s) ∙ all_left s (wants s) idle (wanted_alone s.stub_router s.router s.links s.stubs apart)) in
    ap (λ (b : Bool). b && (wanted_left s (own_router s) && (list_all (network_left s) s.links && list_all (λ n. key_left s n.key) s.numbering))) (heard_none s.heard idle.unheard)
    ∙ ap (λ (b : Bool). b && (list_all (network_left s) s.links && list_all (λ n. key_left s n.key) s.numbering)) all.0
    ∙ ap (λ (b : Bool). b && list_all (λ n. key_left s n.key) s.numbering) all.1
    ∙ keys_left s s.numbering idle

-- ---- the end of a step

pub idle_own : (s : AreaValue) (o : OutputsValue) → IsIdle s → OwnLsas s o o s
idle_own s o idle = record {
  due = [];
  is_due = record { keys = []; rising = tt; whole = λ key out. idle.left key; is = refl };
  mid = s;
  each = record { state = refl; outputs = refl };
  answered = ap (λ (ks : List LsaKey). record s { heard = ks }) idle.unheard;
}
