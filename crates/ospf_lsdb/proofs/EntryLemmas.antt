-- One entry: its key, its header and its age.
use Rattle.std.proofs.Common.{◌≡◌, ◌<◌, ◌≤◌, ℕ, ◌+◌, Bool, true, false, nat_lt, Some, None, List, [], ◌∷◌, refl, arith}
use Rattle.std.proofs.lemmas.Bool.{lt-ltb}
use Rattle.ospf_base.specs.Sums as sums
use Rattle.ospf_lsa.specs.Header.{header_of}
use Rattle.ospf_lsa.specs.Lsa.{key_of, with_age}
use Rattle.ospf_lsdb.specs.Database.{Held, key_in, entry_from, older, expired, removed, is_expired, is_told}

-- the key of an LSA is that of its contents
pub key_of-contents : (lsa : List ℕ) → key_of lsa ≡ key_in (sums.contents lsa)
unfolding key_in
key_of-contents [] = refl
key_of-contents (a ∷ []) = refl
key_of-contents (a ∷ b ∷ rest) = refl

-- so it is at each age
pub key_of-with_age : (age : ℕ) (contents : List ℕ) → key_of (with_age age (0 ∷ 0 ∷ contents)) ≡ key_in contents
unfolding key_in
key_of-with_age age contents = refl

-- the header at another age
pub header_at : (lsa : List ℕ) (age : ℕ) → age ≤ 3600 → header_of (with_age age lsa) ≡ record (header_of lsa) { age = age }
header_at [] age young = let e : (header_of (with_age age [])).age ≡ age = omega arith in rw e refl
header_at (a ∷ []) age young = let e : (header_of (with_age age (a ∷ []))).age ≡ age = omega arith in rw e refl
header_at (a ∷ b ∷ rest) age young = let e : (header_of (with_age age (a ∷ b ∷ rest))).age ≡ age = omega arith in rw e refl

-- a young entry a tick later
pub older-young : (h : Held) → h.entry.age < 3600 → older h ≡ record { entry = record h.entry { age = h.entry.age + 1 }; reached = is_told (h.entry.age + 1) }
unfolding older
older-young h lt = let yes = lt-ltb h.entry.age 3600 lt in rw yes refl

-- one of MaxAge stays so
pub older-old : (h : Held) → 3600 ≤ h.entry.age → older h ≡ record h { reached = false }
unfolding older
older-old h old = let no : nat_lt h.entry.age 3600 ≡ false = grind arith in rw no refl

pub expired-young : (h : Held) → h.entry.age < 3600 → expired h ≡ record { entry = record h.entry { age = 3600 }; reached = false }
unfolding expired
expired-young h lt = let yes = lt-ltb h.entry.age 3600 lt in rw yes refl

pub expired-old : (h : Held) → 3600 ≤ h.entry.age → expired h ≡ h
unfolding expired
expired-old h old = let no : nat_lt h.entry.age 3600 ≡ false = grind arith in rw no refl

pub key-entry_from : (lsa : List ℕ) (tick : ℕ) (by_flooding : Bool) → key_of lsa ≡ key_in (entry_from lsa tick by_flooding).contents
unfolding entry_from
key-entry_from lsa tick by_flooding = key_of-contents lsa

pub age-entry_from : (lsa : List ℕ) (tick : ℕ) (by_flooding : Bool) → (entry_from lsa tick by_flooding).age ≡ (header_of lsa).age
unfolding entry_from
age-entry_from lsa tick by_flooding = refl

-- an entry of MaxAge goes, a younger one stays
pub is_expired-young : (h : Held) → h.entry.age < 3600 → is_expired h ≡ false
is_expired-young h lt = grind arith

pub is_expired-old : (h : Held) → 3600 ≤ h.entry.age → h.entry.age ≤ 3600 → is_expired h ≡ true
is_expired-old h old fits = grind arith

pub removed-young : (h : Held) → h.entry.age < 3600 → removed (Some h) ≡ Some h
unfolding removed
removed-young h lt = let no = is_expired-young h lt in rw no refl

pub removed-old : (h : Held) → 3600 ≤ h.entry.age → h.entry.age ≤ 3600 → removed (Some h) ≡ None
unfolding removed
removed-old h old fits = let yes = is_expired-old h old fits in rw yes refl
