-- One entry of a retransmission list more is looked at.
use Rattle.std.proofs.Common.{◌≡◌, ℕ, ◌+◌, ◌<◌, ◌&&◌, ◌||◌, Bool, true, false, List, [], ◌∷◌, ◌++◌, is_some, length, get_or, map, take, refl, sym, ap, ◌∙◌, BTreeSet}
use Rattle.std.specs.BTreeSet as sorted
use Rattle.std.specs.List.{list_any}
use Rattle.std.proofs.lemmas.List.{take_more}
use Rattle.ospf_base.specs.Rising.{IsRisingBy}
use Rattle.ospf_base.specs.Keys.{same_key, key_cmp, Precedes}
use Rattle.ospf_base.specs.declared.ids.LsaKey.{LsaKey}
use Rattle.ospf_base.proofs.SameKeys.{same_key-eq}
use Rattle.ospf_lsdb.specs.Database.{Held, entry_of, key_at}
use Rattle.ospf_lsdb.proofs.Words.{AreKeysRising}
use Rattle.ospf_lsdb.specs.Moments.{among}
use Rattle.ospf_neighbour.specs.Neighbour.{NeighbourValue}
use Rattle.ospf_neighbour.specs.declared.neighbour.Listed.{Listed}
use Rattle.ospf_exchange.proofs.KeyLemmas.{among_added}
use Rattle.ospf_flood.proofs.Words.{is_resend_due}
use Rattle.ospf_adjacency.specs.Repeats.{due_keys}
use Rattle.ospf_adjacency.proofs.Words.{is_key_due}
use Rattle.ospf_adjacency.proofs.KeyLists.{among_filter, among_keys, filter_rises, keys_rise, rising_same}

-- the entry is due and the database has a copy of its key, which is this one
abbrev pub is_due_of : ℕ → ℕ → List Held → LsaKey → Listed → Bool
is_due_of retransmit tick db q x = (is_resend_due retransmit tick x && is_some (entry_of db x.instance.key)) && same_key x.instance.key q

or_assoc : (a b c : Bool) → a || (b || c) ≡ (a || b) || c
or_assoc true b c = refl
or_assoc false b c = refl

or_false : (a : Bool) → a || false ≡ a
or_false true = refl
or_false false = refl

or_comm : (a b : Bool) → a || b ≡ b || a
or_comm true true = refl
or_comm true false = refl
or_comm false true = refl
or_comm false false = refl

any-push : (p : Listed → Bool) (xs : List Listed) (x : Listed) → list_any p (xs ++ x ∷ []) ≡ list_any p xs || p x
any-push p [] x = or_false (p x)
any-push p (y ∷ ys) x = ap (λ b. p y || b) (any-push p ys x) ∙ or_assoc (p y) (list_any p ys) (p x)

any-more : (p : Listed → Bool) (ls : List Listed) (k : ℕ) (x : Listed) → k < length ls → list_any p (take (k + 1) ls) ≡ list_any p (take k ls) || p (get_or ls k x)
any-more p ls k x within = ap (list_any p) (take_more ls k x within) ∙ any-push p (take k ls) (get_or ls k x)

-- its key goes into the set
pub due_more : (retransmit tick : ℕ) (db : List Held) (ls : List Listed) (k : ℕ) (x : Listed) (s t : BTreeSet LsaKey) → k < length ls
    → true ≡ (is_resend_due retransmit tick (get_or ls k x) && is_some (entry_of db (get_or ls k x).instance.key))
    → sorted.Updates key_cmp s t (get_or ls k x).instance.key true → ((q : LsaKey) → among s.keys q ≡ list_any (is_due_of retransmit tick db q) (take k ls))
    → (q : LsaKey) → among t.keys q ≡ list_any (is_due_of retransmit tick db q) (take (k + 1) ls)
due_more retransmit tick db ls k x s t within due up before q =
    let e = get_or ls k x in
    among_added s t e.instance.key up q ∙ ap (λ b. same_key e.instance.key q || b) (before q) ∙ or_comm (same_key e.instance.key q) (list_any (is_due_of retransmit tick db q) (take k ls))
    ∙ ap (λ (b : Bool). list_any (is_due_of retransmit tick db q) (take k ls) || (b && same_key e.instance.key q)) due ∙ sym (any-more (is_due_of retransmit tick db q) ls k x within)

-- or it does not
pub due_same : (retransmit tick : ℕ) (db : List Held) (ls : List Listed) (k : ℕ) (x : Listed) (ks : List LsaKey) → k < length ls
    → false ≡ (is_resend_due retransmit tick (get_or ls k x) && is_some (entry_of db (get_or ls k x).instance.key))
    → ((q : LsaKey) → among ks q ≡ list_any (is_due_of retransmit tick db q) (take k ls))
    → (q : LsaKey) → among ks q ≡ list_any (is_due_of retransmit tick db q) (take (k + 1) ls)
due_same retransmit tick db ls k x ks within due before q =
    let e = get_or ls k x in
    before q ∙ sym (or_false (list_any (is_due_of retransmit tick db q) (take k ls)))
    ∙ ap (λ (b : Bool). list_any (is_due_of retransmit tick db q) (take k ls) || (b && same_key e.instance.key q)) due ∙ sym (any-more (is_due_of retransmit tick db q) ls k x within)

-- ---- all entries

here_or : (due has same rest there : Bool) → (same ≡ true → has ≡ there) → ((due && has) && same) || (there && rest) ≡ there && ((due && same) || rest)
here_or due has false rest there is = off due has rest there
  where
    off : (due has rest there : Bool) → ((due && has) && false) || (there && rest) ≡ there && ((due && false) || rest)
    off true true rest there = refl
    off true false rest there = refl
    off false has rest there = refl
here_or due has true rest there is = on due has rest there (is refl)
  where
    on : (due has rest there : Bool) → has ≡ there → ((due && has) && true) || (there && rest) ≡ there && ((due && true) || rest)
    on true true rest there is = rw (← is) refl
    on true false rest there is = rw (← is) refl
    on false has rest there is = refl

-- an entry of the key is due, and the database has a copy of it
pub any_due : (retransmit tick : ℕ) (db : List Held) (q : LsaKey) (ls : List Listed)
    → list_any (is_due_of retransmit tick db q) ls ≡ is_some (entry_of db q) && list_any (λ l. is_resend_due retransmit tick l && same_key l.instance.key q) ls
any_due retransmit tick db q [] = none (is_some (entry_of db q))
  where
    none : (a : Bool) → false ≡ a && false
    none true = refl
    none false = refl
any_due retransmit tick db q (l ∷ ls) =
    ap (λ (b : Bool). is_due_of retransmit tick db q l || b) (any_due retransmit tick db q ls)
    ∙ here_or (is_resend_due retransmit tick l) (is_some (entry_of db l.instance.key)) (same_key l.instance.key q) (list_any (λ x. is_resend_due retransmit tick x && same_key x.instance.key q) ls) (is_some (entry_of db q))
    (λ one. ap (λ (k : LsaKey). is_some (entry_of db k)) (same_key-eq l.instance.key q one))

-- the keys that are due, as keys of the database
pub due_are : (retransmit tick : ℕ) (db : List Held) (n : NeighbourValue) (ks : List LsaKey) → AreKeysRising db → IsRisingBy Precedes ks
    → ((q : LsaKey) → among ks q ≡ list_any (is_due_of retransmit tick db q) n.retransmission) → ks ≡ due_keys retransmit tick db n
due_are retransmit tick db n ks rises keys whole =
    let due = is_key_due retransmit tick n in
    rising_same ks (due_keys retransmit tick db n) keys (filter_rises due (map key_at db) (keys_rise db rises))
    (λ q. whole q ∙ any_due retransmit tick db q n.retransmission ∙ ap (λ (b : Bool). b && due q) (sym (among_keys db q)) ∙ sym (among_filter due (map key_at db) q))
