-- What a router keeps for its own LSAs, where its numbers and its database change.
use Rattle.std.proofs.Common.{◌≡◌, ◌≤◌, ◌≤ℤ◌, ◌&&◌, ◌||◌, ℕ, ℤ, Bool, true, false, List, [], ◌∷◌, Option, None, Some, option_map, is_some, length, refl, sym, ap, subst, ◌∙◌, if◌then◌else◌, arith}
use Rattle.std.specs.Int.{int_max}
use Rattle.std.specs.Ordering.{int_eq}
use Rattle.std.proofs.lemmas.Int.{ints}
use Rattle.std.proofs.lemmas.Option.{none-some, same_Some}
use Rattle.ospf_base.proofs.SameKeys.{same_key-eq}
use Rattle.ospf_base.specs.Keys.{same_key}
use Rattle.ospf_base.specs.Sums as sums
use Rattle.ospf_base.specs.declared.ids.LsaKey.{LsaKey}
use Rattle.ospf_base.specs.declared.ids.RouterId.{RouterId}
use Rattle.ospf_flood.specs.Rules.{max_sequence_number}
use Rattle.ospf_lsa.specs.Header.{header_of}
use Rattle.ospf_lsdb.specs.Database.{Entry, Held, entry_from, header_at, held_of}
use Rattle.ospf_area.proofs.NumberLemmas.{own_counted}
use Rattle.ospf_area.specs.Numbers.{is_own}
use Rattle.ospf_area.specs.State.{AreaValue, kept_number, numbering_of}
use Rattle.ospf_area.proofs.Words.{kept_in, counted}
use Rattle.ospf_area.specs.declared.state.Numbering.{Numbering}
use Rattle.ospf_area.specs.Updates.Removal.{lowest_number, reset}
use Rattle.ospf_originate.specs.Sound.{AreSetUp, IsSound, max_stubs}
use Rattle.ospf_originate.proofs.NumberLemmas.{counted_some, reset_kept, reset_some}

-- ---- what the database has of a key, at any age

unfoldable pub known : List Held → LsaKey → Option (List ℕ)
known db key = option_map (λ (h : Held). h.entry.contents) (held_of db key)

-- the number in the contents of an LSA
pub number_in : List ℕ → ℤ
number_in contents = (header_of (0 ∷ 0 ∷ contents)).number

pub number_of-contents : (lsa : List ℕ) → (header_of lsa).number ≡ number_in (sums.contents lsa)
unfolding number_in
number_of-contents [] = refl
number_of-contents (a ∷ []) = refl
number_of-contents (a ∷ b ∷ rest) = refl

pub number_at : (e : Entry) → (header_at e).number ≡ number_in e.contents
unfolding number_in
number_at e = refl

pub contents-entry_from : (lsa : List ℕ) (tick : ℕ) (by_flooding : Bool) → (entry_from lsa tick by_flooding).contents ≡ sums.contents lsa
unfolding entry_from
contents-entry_from lsa tick by_flooding = refl

-- ---- the numbers that a router keeps for it

pub record Numbers (router : RouterId) (db : List Held) (ns : List Numbering) (floor top : ℤ) : Type 0 where
  pub numbered : (key : LsaKey) (c : List ℕ) → known db key ≡ Some c → is_own router key ≡ true → is_some (numbering_of ns key) ≡ true
  pub counted : (key : LsaKey) (c : List ℕ) → known db key ≡ Some c → is_own router key ≡ true → number_in c ≤ℤ kept_in floor (numbering_of ns key)
  pub max_seq : (key : LsaKey) → kept_in floor (numbering_of ns key) ≤ℤ top

abbrev pub NumbersOf : AreaValue → Type 0
NumbersOf s = Numbers s.router s.database s.numbering s.floor s.max_seq

held_known : (db : List Held) (key : LsaKey) (c : List ℕ) → known db key ≡ Some c → (h : Held) × (held_of db key ≡ Some h) × (h.entry.contents ≡ c)
unfolding known
held_known db key c is = by_held (held_of db key) is
  where
    by_held : (o : Option Held) → option_map (λ (h : Held). h.entry.contents) o ≡ Some c → (h : Held) × (o ≡ Some h) × (h.entry.contents ≡ c)
    by_held None e = absurd (none-some c e)
    by_held (Some h) e = (h, refl, same_Some h.entry.contents c e)

pub known_held : (db : List Held) (key : LsaKey) (h : Held) → held_of db key ≡ Some h → known db key ≡ Some h.entry.contents
unfolding known
known_held db key h is = ap (option_map (λ (h : Held). h.entry.contents)) is

pub numbers_of : (s : AreaValue) → IsSound s → NumbersOf s
numbers_of s sound = record {
  numbered = λ key c is own.
      let (h, at, same) = held_known s.database key c is in
      sound.numbered key (ap (λ (o : Option Held). is_some (option_map (λ (h : Held). h.entry) o)) at) own;
  counted = λ key c is own.
      let (h, at, same) = held_known s.database key c is in
      subst (λ (n : ℤ). n ≤ℤ kept_number s key) (number_at h.entry ∙ ap number_in same) (sound.counted key h.entry (ap (option_map (λ (h : Held). h.entry)) at) own);
  max_seq = sound.max_seq;
}

pub sound_of : (s : AreaValue) → AreSetUp s.links → length s.stubs ≤ max_stubs → NumbersOf s → IsSound s
sound_of s up few ns = record {
  links = up;
  stubs = few;
  numbered = λ key there own. by_held key (held_of s.database key) refl there own;
  counted = λ key copy is own. by_copy key copy (held_of s.database key) refl is own;
  max_seq = ns.max_seq;
}
  where
    by_held : (key : LsaKey) (o : Option Held) → held_of s.database key ≡ o → is_some (option_map (λ (h : Held). h.entry) o) ≡ true → is_own s.router key ≡ true → is_some (numbering_of s.numbering key) ≡ true
    by_held key None at there own = absurd (cc)
    by_held key (Some h) at there own = ns.numbered key h.entry.contents (known_held s.database key h at) own

    by_copy : (key : LsaKey) (copy : Entry) (o : Option Held) → held_of s.database key ≡ o → option_map (λ (h : Held). h.entry) o ≡ Some copy → is_own s.router key ≡ true → (header_at copy).number ≤ℤ kept_number s key
    by_copy key copy None at e own = absurd (none-some copy e)
    by_copy key copy (Some h) at e own =
        subst (λ (n : ℤ). n ≤ℤ kept_number s key) (sym (number_at copy ∙ ap (λ (x : Entry). number_in x.contents) (sym (same_Some h.entry copy e))))
        (ns.counted key h.entry.contents (known_held s.database key h at) own)

-- ---- the database changes

-- it has nothing but what it had
pub fewer : (r : RouterId) (db db' : List Held) (ns : List Numbering) (f g : ℤ) → ((key : LsaKey) (c : List ℕ) → known db' key ≡ Some c → known db key ≡ Some c) → Numbers r db ns f g → Numbers r db' ns f g
fewer r db db' ns f g was old = record {
  numbered = λ key c is own. old.numbered key c (was key c is) own;
  counted = λ key c is own. old.counted key c (was key c is) own;
  max_seq = old.max_seq;
}

-- an LSA is installed, and counted
max_right : (a b : ℤ) → b ≤ℤ int_max a b
max_right a b = grind (arith, ints)

max_left : (a b : ℤ) → a ≤ℤ int_max a b
max_left a b = grind (arith, ints)

max_both : (a b c : ℤ) → a ≤ℤ c → int_max a b ≤ℤ int_max c b
max_both a b c le = grind (arith, ints)

le_trans : (a b c : ℤ) → a ≤ℤ b → b ≤ℤ c → a ≤ℤ c
le_trans a b c p q = omega (arith, ints)

or_here : (a b : Bool) → b ≡ true → (a || b) ≡ true
or_here true b e = refl
or_here false b e = e

or_there : (a b : Bool) → a ≡ true → (a || b) ≡ true
or_there true b e = refl
or_there false b e = absurd (cc)

abbrev pub counts_in : RouterId → LsaKey → ℤ → ℤ → List Numbering → List Numbering
counts_in r key number f ns = if is_own r key then counted key number f ns else ns

abbrev pub greatest_in : RouterId → LsaKey → ℤ → ℤ → ℤ
greatest_in r key number g = if is_own r key then int_max g number else g

-- a number is counted
module _ (r : RouterId) (ns : List Numbering) (f : ℤ) (at : LsaKey) (n : ℤ) where
  counts_some : (key : LsaKey) → is_some (numbering_of ns key) ≡ true → is_some (numbering_of (counts_in r at n f ns) key) ≡ true
  counts_some key there = by_test (is_own r at)
    where
      by_test : (b : Bool) → is_some (numbering_of (if b then counted at n f ns else ns) key) ≡ true
      by_test true = counted_some at n f ns key ∙ or_there (is_some (numbering_of ns key)) (same_key at key) there
      by_test false = there

  counts_here : (key : LsaKey) → same_key at key ≡ true → is_own r key ≡ true → is_some (numbering_of (counts_in r at n f ns) key) ≡ true
  counts_here key one own =
      let own_at : is_own r at ≡ true = subst (λ (k : LsaKey). is_own r k ≡ true) (sym (same_key-eq at key one)) own in
      ap (λ (b : Bool). is_some (numbering_of (if b then counted at n f ns else ns) key)) own_at
      ∙ (counted_some at n f ns key ∙ or_here (is_some (numbering_of ns key)) (same_key at key) one)

  kept_now : (key : LsaKey) → kept_in f (numbering_of (counts_in r at n f ns) key)
      ≡ (if same_key at key && is_own r key then int_max (kept_in f (numbering_of ns key)) n else kept_in f (numbering_of ns key))
  kept_now key = own_counted r at key n f ns

  -- the number of each key rises, if it changes
  rises : (key : LsaKey) → kept_in f (numbering_of ns key) ≤ℤ kept_in f (numbering_of (counts_in r at n f ns) key)
  rises key = subst (λ (x : ℤ). kept_in f (numbering_of ns key) ≤ℤ x) (sym (kept_now key)) (by_test (same_key at key && is_own r key))
    where
      by_test : (b : Bool) → kept_in f (numbering_of ns key) ≤ℤ (if b then int_max (kept_in f (numbering_of ns key)) n else kept_in f (numbering_of ns key))
      by_test true = max_left (kept_in f (numbering_of ns key)) n
      by_test false = omega (arith, ints)

  -- that of its key is at least it
  reaches : (key : LsaKey) → same_key at key ≡ true → is_own r key ≡ true → n ≤ℤ kept_in f (numbering_of (counts_in r at n f ns) key)
  reaches key one own =
      let whole : kept_in f (numbering_of (counts_in r at n f ns) key) ≡ int_max (kept_in f (numbering_of ns key)) n =
      kept_now key ∙ ap (λ (b : Bool). if b && is_own r key then int_max (kept_in f (numbering_of ns key)) n else kept_in f (numbering_of ns key)) one
      ∙ ap (λ (b : Bool). if b then int_max (kept_in f (numbering_of ns key)) n else kept_in f (numbering_of ns key)) own in
      subst (λ (x : ℤ). n ≤ℤ x) (sym whole) (max_right (kept_in f (numbering_of ns key)) n)

  -- and none is above the greatest one
  module _ (g : ℤ) (low : (key : LsaKey) → kept_in f (numbering_of ns key) ≤ℤ g) where
    top_own : (key : LsaKey) (b : Bool) → is_own r at ≡ b → kept_in f (numbering_of ns key) ≤ℤ (if b then int_max g n else g)
    top_own key true e = le_trans _ _ _ (low key) (max_left g n)
    top_own key false e = low key

    top_here : (key : LsaKey) → is_own r at ≡ true → int_max (kept_in f (numbering_of ns key)) n ≤ℤ greatest_in r at n g
    top_here key own = subst (λ (b : Bool). int_max (kept_in f (numbering_of ns key)) n ≤ℤ (if b then int_max g n else g)) (sym own) (max_both _ _ _ (low key))

    top_test : (key : LsaKey) (b : Bool) → same_key at key ≡ b → (d : Bool) → is_own r key ≡ d
        → (if b && d then int_max (kept_in f (numbering_of ns key)) n else kept_in f (numbering_of ns key)) ≤ℤ greatest_in r at n g
    top_test key true one true own = top_here key (subst (λ (k : LsaKey). is_own r k ≡ true) (sym (same_key-eq at key one)) own)
    top_test key true one false other = top_own key (is_own r at) refl
    top_test key false two d own = top_own key (is_own r at) refl

    top : (key : LsaKey) → kept_in f (numbering_of (counts_in r at n f ns) key) ≤ℤ greatest_in r at n g
    top key = subst (λ (x : ℤ). x ≤ℤ greatest_in r at n g) (sym (kept_now key)) (top_test key (same_key at key) refl (is_own r key) refl)

-- where the database stays
pub counted_numbers : (r : RouterId) (db : List Held) (ns : List Numbering) (f g : ℤ) (at : LsaKey) (n : ℤ) → Numbers r db ns f g → Numbers r db (counts_in r at n f ns) f (greatest_in r at n g)
counted_numbers r db ns f g at n old = record {
  numbered = λ key c is own. counts_some r ns f at n key (old.numbered key c is own);
  counted = λ key c is own. le_trans _ _ _ (old.counted key c is own) (rises r ns f at n key);
  max_seq = top r ns f at n g old.max_seq;
}

-- where an LSA with the number is installed
module _ (r : RouterId) (db db' : List Held) (ns : List Numbering) (f g : ℤ) (at : LsaKey) (c : List ℕ) (puts : (key : LsaKey) → known db' key ≡ (if same_key at key then Some c else known db key)) (old : Numbers r db ns f g) where
  some_test : (key : LsaKey) (d : List ℕ) → is_own r key ≡ true → (b : Bool) → same_key at key ≡ b → (if b then Some c else known db key) ≡ Some d
      → is_some (numbering_of (counts_in r at (number_in c) f ns) key) ≡ true
  some_test key d own true one is = counts_here r ns f at (number_in c) key one own
  some_test key d own false two is = counts_some r ns f at (number_in c) key (old.numbered key d is own)

  count_test : (key : LsaKey) (d : List ℕ) → is_own r key ≡ true → (b : Bool) → same_key at key ≡ b → (if b then Some c else known db key) ≡ Some d
      → number_in d ≤ℤ kept_in f (numbering_of (counts_in r at (number_in c) f ns) key)
  count_test key d own true one is =
      subst (λ (x : List ℕ). number_in x ≤ℤ kept_in f (numbering_of (counts_in r at (number_in c) f ns) key)) (same_Some c d is) (reaches r ns f at (number_in c) key one own)
  count_test key d own false two is = le_trans _ _ _ (old.counted key d is own) (rises r ns f at (number_in c) key)

  pub stored_numbers : Numbers r db' (counts_in r at (number_in c) f ns) f (greatest_in r at (number_in c) g)
  stored_numbers = record {
    numbered = λ key d is own. some_test key d own (same_key at key) refl (sym (puts key) ∙ is);
    counted = λ key d is own. count_test key d own (same_key at key) refl (sym (puts key) ∙ is);
    max_seq = top r ns f at (number_in c) g old.max_seq;
  }

-- the copy of a key leaves, and its numbers begin again
pub ended_numbers : (r : RouterId) (db db' : List Held) (ns : List Numbering) (f g : ℤ) (at : LsaKey) → ((key : LsaKey) (c : List ℕ) → known db' key ≡ Some c → (same_key at key ≡ false) × (known db key ≡ Some c))
    → lowest_number ≤ℤ g → Numbers r db ns f g → Numbers r db' (reset at ns) f g
ended_numbers r db db' ns f g at was low old = record {
  numbered = λ key c is own. reset_some at ns key ∙ or_there (is_some (numbering_of ns key)) (same_key at key) (old.numbered key c (was key c is).1 own);
  counted = λ key c is own.
      subst (λ (n : ℤ). number_in c ≤ℤ n)
      (sym (reset_kept f at ns key ∙ ap (λ (b : Bool). if b then lowest_number else kept_in f (numbering_of ns key)) (was key c is).0))
      (old.counted key c (was key c is).1 own);
  max_seq = λ key. subst (λ (n : ℤ). n ≤ℤ g) (sym (reset_kept f at ns key)) (by_test key (same_key at key));
}
  where
    by_test : (key : LsaKey) (b : Bool) → (if b then lowest_number else kept_in f (numbering_of ns key)) ≤ℤ g
    by_test key true = low
    by_test key false = old.max_seq key

-- where the copy's number is the last one, no kept number is below the lowest
pub last_is_high : (n k g : ℤ) → int_eq n max_sequence_number ≡ true → n ≤ℤ k → k ≤ℤ g → lowest_number ≤ℤ g
last_is_high n k g last p q = grind (arith, ints)
