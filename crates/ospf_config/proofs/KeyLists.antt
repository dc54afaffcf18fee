-- The keys of tables.
use Rattle.std.proofs.Common.{◌≡◌, ℕ, zero, suc, List, [], ◌∷◌, map, Bor, String, Global, string_bytes, inl, inr, arith}
use Rattle.std.specs.Prelude.{Any, Contains}
use Rattle.std.specs.Map.{keys_of as map_keys}
use Rattle.toml.specs.View.{members_view}
use Rattle.toml.proofs.Views.{Entry}
use Rattle.ospf_config.specs.Tables.{keys_of}
use Rattle.ospf_config.proofs.TableLists.{any_here, any_later, any_cons, any_none}

-- one of the texts is the key
pub contains_some : (names : List (Bor (List ℕ))) (key : List ℕ) → Any (λ n. n.now ≡ key) names → Contains (map (λ (n : Bor (List ℕ)). n.now) names) key
contains_some [] key h = absurd (any_none (λ (n : Bor (List ℕ)). n.now ≡ key) h)
contains_some (n ∷ names) key h =
    elim (any_cons (λ (x : Bor (List ℕ)). x.now ≡ key) n names h) [
      | inl same ↦ (0, omega arith, same)
      | inr r ↦ (let (k, lt, at) = contains_some names key r in (suc k, omega arith, at))
    ]

pub some_contains : (names : List (Bor (List ℕ))) (key : List ℕ) → Contains (map (λ (n : Bor (List ℕ)). n.now) names) key → Any (λ n. n.now ≡ key) names
some_contains [] key (k, lt, at) = absurd (omega arith)
some_contains (n ∷ names) key (zero, lt, at) = any_here (λ (x : Bor (List ℕ)). x.now ≡ key) n names at
some_contains (n ∷ names) key (suc k, lt, at) = any_later (λ (x : Bor (List ℕ)). x.now ≡ key) n names (some_contains names key (k, omega arith, at))

-- one of the keys of the map is a key of the members
module _ (P : List ℕ → Type 0) where
  pub key_of_members : (es : List Entry) → Any (λ k. P (string_bytes k)) (map_keys es) → Any P (keys_of (members_view es))
  key_of_members [] h = absurd (any_none (λ (k : String Global). P (string_bytes k)) h)
  key_of_members (e ∷ es) h =
      elim (any_cons (λ (k : String Global). P (string_bytes k)) e.0 (map_keys es) h) [
        | inl p ↦ any_here P (string_bytes e.0) (keys_of (members_view es)) p
        | inr r ↦ any_later P (string_bytes e.0) (keys_of (members_view es)) (key_of_members es r)
      ]

  pub key_of_map : (es : List Entry) → Any P (keys_of (members_view es)) → Any (λ k. P (string_bytes k)) (map_keys es)
  key_of_map [] h = absurd (any_none P h)
  key_of_map (e ∷ es) h =
      elim (any_cons P (string_bytes e.0) (keys_of (members_view es)) h) [
        | inl p ↦ any_here (λ (k : String Global). P (string_bytes k)) e.0 (map_keys es) p
        | inr r ↦ any_later (λ (k : String Global). P (string_bytes k)) e.0 (map_keys es) (key_of_map es r)
      ]
