-- The keys of which something may be due.
use Rattle.std.proofs.Common.{◌≡◌, ◌<◌, ◌+◌, ◌++◌, ◌||◌, ℕ, ℤ, Bool, true, false, List, [], ◌∷◌, length, take, get_or, map, is_some, Option, None, Some, refl, sym, ap, ◌∙◌, if◌then◌else◌, BTreeSet}
use Rattle.std.specs.List.{list_any}
use Rattle.std.proofs.lemmas.List.{take_more}
use Rattle.std.proofs.lemmas.Bool.{false≢true}
use Rattle.ospf_base.specs.declared.ids.LsaKey.{LsaKey}
use Rattle.ospf_lsdb.specs.Database.{Entry}
use Rattle.ospf_lsdb.specs.Moments.{among}
use Rattle.ospf_exchange.proofs.KeyLemmas.{among_added}
use Rattle.std.specs.BTreeSet as sorted
use Rattle.ospf_base.specs.Keys.{same_key, key_cmp}
use Rattle.ospf_area.specs.Numbers.{is_own}
use Rattle.ospf_area.specs.State.{AreaValue, database_entry, numbering_of, kept_number}
use Rattle.ospf_area.specs.declared.state.Numbering.{Numbering}
use Rattle.ospf_originate.specs.Actions.{own_action, unwanted_action}
use Rattle.ospf_originate.specs.Numbers.{waits}
use Rattle.ospf_originate.specs.Wants.Own.{wanted_value}
use Rattle.ospf_originate.specs.declared.contents.wants.OwnLsa.{OwnLsa}
use Rattle.ospf_originate.specs.Sound.{AreNumbered}
use Rattle.ospf_originate.specs.Steps.{wants, action_of, candidates}
use Rattle.ospf_originate.specs.Wants.Wanted.{WantedValue, wanted_key, wanted_of}
use Rattle.ospf_originate.specs.declared.action.OwnAction.{OwnAction}
use Rattle.ospf_originate.specs.declared.action.OwnAction.TheVariants.{Leave}

-- ---- sets of keys

or_moved : (a b : Bool) → a || (b || false) ≡ b || a
or_moved true true = refl
or_moved true false = refl
or_moved false true = refl
or_moved false false = refl

or_assoc : (a b c : Bool) → a || (b || c) ≡ (a || b) || c
or_assoc true b c = refl
or_assoc false b c = refl

pub among-append : (xs ys : List LsaKey) (q : LsaKey) → among (xs ++ ys) q ≡ among xs q || among ys q
among-append [] ys q = refl
among-append (x ∷ xs) ys q = ap (λ (b : Bool). same_key x q || b) (among-append xs ys q) ∙ or_assoc (same_key x q) (among xs q) (among ys q)

-- one key more
pub among_more : (keys : List LsaKey) (i : ℕ) (d q : LsaKey) → i < length keys → among (take (i + 1) keys) q ≡ same_key (get_or keys i d) q || among (take i keys) q
among_more keys i d q within =
    ap (λ (ks : List LsaKey). among ks q) (take_more keys i d within) ∙ among-append (take i keys) (get_or keys i d ∷ []) q
    ∙ or_moved (among (take i keys) q) (same_key (get_or keys i d) q)

-- one key more in a set
pub set_more : (s t : BTreeSet LsaKey) (keys : List LsaKey) (i : ℕ) (d : LsaKey) → i < length keys → sorted.Updates key_cmp s t (get_or keys i d) true
    → ((q : LsaKey) → among s.keys q ≡ among (take i keys) q) → (q : LsaKey) → among t.keys q ≡ among (take (i + 1) keys) q
set_more s t keys i d within up before q =
    among_added s t (get_or keys i d) up q ∙ ap (λ (b : Bool). same_key (get_or keys i d) q || b) (before q) ∙ sym (among_more keys i d q within)

pub map-map : {X Y Z : Type 0} → (f : Y → Z) (g : X → Y) (xs : List X) → map (λ x. f (g x)) xs ≡ map f (map g xs)
map-map f g [] = refl
map-map {Z = Z} f g (x ∷ xs) = ap (λ (zs : List Z). f (g x) ∷ zs) (map-map f g xs)

-- ---- what is no candidate

neither : (a b : Bool) → a || b ≡ false → (a ≡ false) × (b ≡ false)
neither true b is = absurd (false≢true (sym is))
neither false b is = (refl, is)

none_wanted : (ws : List WantedValue) (key : LsaKey) → among (map wanted_key ws) key ≡ false → wanted_of ws key ≡ None
none_wanted [] key is = refl
none_wanted (w ∷ ws) key is =
    let parts = neither (same_key (wanted_key w) key) (among (map wanted_key ws) key) is in
    ap (λ (b : Bool). if b then Some w else wanted_of ws key) (parts.0) ∙ none_wanted ws key parts.1

none_numbered : (ns : List Numbering) (key : LsaKey) → among (map (λ n. n.key) ns) key ≡ false → numbering_of ns key ≡ None
none_numbered [] key is = refl
none_numbered (n ∷ ns) key is =
    let parts = neither (same_key n.key key) (among (map (λ n. n.key) ns) key) is in
    ap (λ (b : Bool). if b then Some n else numbering_of ns key) (parts.0) ∙ none_numbered ns key parts.1

none_heard : (heard : List LsaKey) (key : LsaKey) → among heard key ≡ false → list_any (λ k. same_key k key) heard ≡ false
none_heard [] key is = refl
none_heard (k ∷ ks) key is =
    let parts = neither (same_key k key) (among ks key) is in
    ap (λ (b : Bool). b || list_any (λ k. same_key k key) ks) (parts.0) ∙ none_heard ks key parts.1

-- nothing becomes of a copy that was not heard, and is not the router's own
pub left_alone : (copy : Option Entry) (own : Bool) → (is_some copy ≡ true → own ≡ true → ⊥) → unwanted_action copy false own ≡ Leave
left_alone None own never = refl
left_alone (Some copy) true never = absurd (never refl refl)
left_alone (Some copy) false never = refl

-- nothing is due of what is no candidate
pub no_candidate : (s : AreaValue) (key : LsaKey) → AreNumbered s → among (candidates (wants s) s.numbering s.heard) key ≡ false → action_of s key ≡ Leave
unfolding action_of own_action
no_candidate s key numbered is =
    let parts = neither (among (map wanted_key (wants s) ++ map (λ n. n.key) s.numbering) key) (among s.heard key) (sym (among-append (map wanted_key (wants s) ++ map (λ n. n.key) s.numbering) s.heard key) ∙ is) in
    let front = neither (among (map wanted_key (wants s)) key) (among (map (λ n. n.key) s.numbering) key) (sym (among-append (map wanted_key (wants s)) (map (λ n. n.key) s.numbering) key) ∙ parts.0) in
    let wanted : wanted_of (wants s) key ≡ None = none_wanted (wants s) key front.0 in
    let unnumbered : numbering_of s.numbering key ≡ None = none_numbered s.numbering key front.1 in
    let unheard : among s.heard key ≡ false = none_heard s.heard key parts.1 in
    let never : is_some (database_entry s key) ≡ true → (is_own s.router key) ≡ true → ⊥ =
    λ there own. false≢true (sym (ap (λ (o : Option Numbering). is_some o) unnumbered) ∙ numbered key there own) in
    ap (λ (o : Option WantedValue). own_action o (database_entry s key) (among s.heard key) (is_own s.router key) (waits s.tick s.numbering key) (kept_number s key)) wanted
    ∙ ap (λ (b : Bool). unwanted_action (database_entry s key) b (is_own s.router key)) unheard
    ∙ left_alone (database_entry s key) (is_own s.router key) never

-- all candidates, but not of their representation
pub all_candidates : (xs : List OwnLsa) (ns : List Numbering) (heard a b c : List LsaKey) → a ≡ map (λ w. wanted_key (wanted_value w)) xs → b ≡ map (λ n. n.key) ns
    → c ≡ (a ++ b) ++ heard → c ≡ candidates (map wanted_value xs) ns heard
all_candidates xs ns heard a b c is_a is_b is =
    is ∙ ap (λ (ks : List LsaKey). (ks ++ b) ++ heard) (is_a ∙ map-map wanted_key wanted_value xs)
    ∙ ap (λ (ks : List LsaKey). (map wanted_key (map wanted_value xs) ++ ks) ++ heard) is_b

-- what is left out of the keys in their order
pub due_whole : (s : AreaValue) (xs : List OwnLsa) (ns : List Numbering) (heard ks seen rising : List LsaKey) (key : LsaKey) → AreNumbered s → map wanted_value xs ≡ wants s
    → ns ≡ s.numbering → heard ≡ s.heard → ks ≡ candidates (map wanted_value xs) ns heard → seen ≡ ks → ((q : LsaKey) → among rising q ≡ among seen q)
    → among rising key ≡ false → action_of s key ≡ Leave
due_whole s xs ns heard ks seen rising key numbered wanted is_ns is_heard_by is same whole out =
    let all : ks ≡ candidates (wants s) s.numbering s.heard =
    is ∙ ap (λ (ws : List WantedValue). candidates ws ns heard) wanted ∙ ap (λ (n : List Numbering). candidates (wants s) n heard) is_ns
    ∙ ap (λ (h : List LsaKey). candidates (wants s) s.numbering h) is_heard_by in
    no_candidate s key numbered (ap (λ (l : List LsaKey). among l key) (sym all) ∙ ap (λ (l : List LsaKey). among l key) (sym same) ∙ sym (whole key) ∙ out)

-- what becomes of a key, from what is known of it
pub action_is : (s : AreaValue) (key : LsaKey) (ws : List WantedValue) (w : Option WantedValue) (copy : Option Entry) (heard own waited : Bool) (kept : ℤ) (a : OwnAction)
    → ws ≡ wants s → w ≡ wanted_of ws key → copy ≡ database_entry s key → heard ≡ among s.heard key → own ≡ is_own s.router key → waited ≡ waits s.tick s.numbering key → kept ≡ kept_number s key
    → a ≡ own_action w copy heard own waited kept → a ≡ action_of s key
unfolding action_of
action_is s key ws w copy heard own waited kept a of_ws of_w of_copy of_heard of_own of_waited of_kept is =
    let found : w ≡ wanted_of (wants s) key = of_w ∙ ap (λ (xs : List WantedValue). wanted_of xs key) of_ws in
    is
    ∙ ap (λ (o : Option WantedValue). own_action o copy heard own waited kept) found
    ∙ ap (λ (o : Option Entry). own_action (wanted_of (wants s) key) o heard own waited kept) of_copy
    ∙ ap (λ (b : Bool). own_action (wanted_of (wants s) key) (database_entry s key) b own waited kept) of_heard
    ∙ ap (λ (b : Bool). own_action (wanted_of (wants s) key) (database_entry s key) (among s.heard key) b waited kept) of_own
    ∙ ap (λ (b : Bool). own_action (wanted_of (wants s) key) (database_entry s key) (among s.heard key) (is_own s.router key) b kept) of_waited
    ∙ ap (λ (n : ℤ). own_action (wanted_of (wants s) key) (database_entry s key) (among s.heard key) (is_own s.router key) (waits s.tick s.numbering key) n) of_kept
