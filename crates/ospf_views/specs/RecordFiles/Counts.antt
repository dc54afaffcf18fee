-- Counts, as far as 32 bits go.
use Rattle.std.specs.Prelude.{◌≡◌, ◌==◌, ◌+◌, ℕ, nat_lt, unwrap_or, if◌then◌else◌}
use Rattle.std.specs.BTreeMap as tree
use Rattle.std.specs.Ordering.{nat_cmp}

-- the largest number of 32 bits
abbrev pub largest : ℕ
largest = 0xffffffff

-- a number, or the largest where it is larger
unfoldable pub capped : ℕ → ℕ
capped n = if nat_lt n largest then n else largest

-- one more, up to the largest
unfoldable pub counted_more : ℕ → ℕ
counted_more n = if nat_lt n largest then n + 1 else n

-- how often a key was counted
abbrev pub count_in : tree.BTreeMap ℕ ℕ → ℕ → ℕ
count_in counts key = unwrap_or (tree.get nat_cmp counts key) 0

-- one more of a key
abbrev pub IsOneMoreOf : ℕ → tree.BTreeMap ℕ ℕ → tree.BTreeMap ℕ ℕ → Type 0
IsOneMoreOf key before after =
    (k : ℕ)
    → count_in after k ≡ (if key == k then counted_more (count_in before k) else count_in before k)
