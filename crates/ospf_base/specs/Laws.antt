-- Laws of keys and instances.
use Rattle.std.specs.Prelude.{◌≡◌, ◌↔◌, true}
use Rattle.ospf_base.specs.Instances.{same_instance}
use Rattle.ospf_base.specs.Keys.{same_key}
use Rattle.ospf_base.specs.declared.ids.Instance.{Instance}
use Rattle.ospf_base.specs.declared.ids.LsaKey.{LsaKey}

-- two keys compare as the same exactly where they are equal
abbrev pub SameKeysAreEqual : Type 0
SameKeysAreEqual = (a b : LsaKey) → (same_key a b ≡ true) ↔ (a ≡ b)

-- and so are instances
abbrev pub SameInstancesAreEqual : Type 0
SameInstancesAreEqual = (a b : Instance) → (same_instance a b ≡ true) ↔ (a ≡ b)
