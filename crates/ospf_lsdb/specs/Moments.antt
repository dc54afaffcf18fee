-- Moments on a ring, and the ages that entries reach at each (RFC 2328, section 14).
use Rattle.std.specs.Prelude.{◌≡◌, ◌==◌, ◌&&◌, ◌||◌, ℕ, ◌+◌, ◌-◌, ◌%◌, ◌<◌, ◌≤◌, Bool, true, List, map, filter, nat_lt}
use Rattle.std.specs.List.{list_any}
use Rattle.std.specs.declared.cmp.Ordering.{Ordering}
use Rattle.ospf_base.specs.declared.ids.LsaKey.{LsaKey}
use Rattle.ospf_base.specs.Keys.{same_key}
use Rattle.ospf_base.specs.Constants.{max_age}
use Rattle.ospf_lsdb.specs.Database.{ls_refresh_time}
use Rattle.ospf_lsdb.specs.declared.moments.AgeDue.{AgeDue}
use Rattle.ospf_lsdb.specs.contracts.moments.AgeDueOrd.TheImpl as due_ord

-- the order of what is due: by moment, then by age, then by key
abbrev pub due_cmp : AgeDue → AgeDue → Ordering
due_cmp = (due_ord.ghosts).cmp

-- the two are one, in moment, age and key
unfoldable pub same_due : AgeDue → AgeDue → Bool
same_due d q = (d.moment == q.moment) && ((d.age == q.age) && same_key d.key q.key)

-- this is among what is due
abbrev pub has_due : List AgeDue → AgeDue → Bool
has_due dues d = list_any (λ q. same_due d q) dues

-- the clock wraps around after this many moments
abbrev pub ring : ℕ
ring = 65536

-- how many moments a moment is ahead of another
unfoldable pub ahead : ℕ → ℕ → ℕ
ahead clock moment = (moment + (ring - clock)) % ring

-- nothing is due before this many moments from now
pub record IsIdleUntil (clock count : ℕ) (dues : List AgeDue) : Type 0 where
  pub none_before : (d : AgeDue) → d.moment < ring → has_due dues d ≡ true
      → count ≤ ahead clock d.moment

-- something is due in this many moments from now
abbrev pub ComesIn : ℕ → ℕ → List AgeDue → Type 0
ComesIn clock count dues = (d : AgeDue) × (has_due dues d ≡ true) × (ahead clock d.moment ≡ count)

-- when an entry of this key, which has this age now, reaches another age
abbrev pub coming : ℕ → ℕ → ℕ → LsaKey → AgeDue
coming clock age told key = record { moment = (clock + (told - age)) % ring; age = told; key = key }

-- what an entry of this key, which has this age now, will reach
unfoldable pub is_coming : ℕ → ℕ → LsaKey → AgeDue → Bool
is_coming clock age key q =
    (nat_lt age ls_refresh_time && same_due (coming clock age ls_refresh_time key) q)
    || (nat_lt age max_age && same_due (coming clock age max_age key) q)

-- at this moment the entry of a key reaches an age
abbrev pub due_at : ℕ → ℕ → LsaKey → AgeDue
due_at moment age key = record { moment = moment; age = age; key = key }

-- it is due at this moment, for this age
abbrev pub is_due_at : ℕ → ℕ → AgeDue → Bool
is_due_at moment age q = (q.moment == moment) && (q.age == age)

-- the keys whose entries reach an age at a moment, in the order of the list
unfoldable pub keys_at : ℕ → ℕ → List AgeDue → List LsaKey
keys_at moment age dues = map (λ d. d.key) (filter (is_due_at moment age) dues)

-- the key is in the list
abbrev pub among : List LsaKey → LsaKey → Bool
among keys key = list_any (λ k. same_key k key) keys
