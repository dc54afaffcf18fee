-- The name that a word is, looked for among all names, which are text.
use Rattle.std.proofs.Common.{rules, ◌≡◌, refl, sym, subst, ap, inl, inr, ◌||◌, ◌⊎◌, cond, Bool, true, false, List, [], ◌∷◌, Option, None, Some, codes}
use Rattle.std.specs.List.{find}
use Rattle.std.specs.Str.{IsUtf8, bytes_eq}
use Rattle.std.proofs.lemmas.Slice.Eq.{bytes_eq-Decides}
use Rattle.ospf_script.specs.Names.{IsWordOf, all_names, is_word_of, name_in, command_name_text}
use Rattle.ospf_script.specs.Words.{Text}
use Rattle.ospf_script.specs.declared.command.View.TheVariants as view
use Rattle.ospf_script.specs.declared.name.Name.{Name}
use Rattle.ospf_script.specs.declared.name.Name.TheVariants as name

-- the name that a word is is found
pub name_found : (word : Text) (n : Name) → IsWordOf word n → name_in word ≡ Some n
name_found word (name.Show view.Neighbours) is = elim is [ inl british ↦ ap name_in british | inr american ↦ ap name_in american ]
name_found word name.Start is = ap name_in is
name_found word n is = ap name_in is

is_its_word : (word text : Text) → bytes_eq word text ≡ true → word ≡ text
is_its_word word text same = (bytes_eq-Decides word text).0 same

either_is : (a b : Bool) → (a || b) ≡ true → (a ≡ true) ⊎ (b ≡ true)
either_is true b h = inl refl
either_is false b h = inr h

tested : (word : Text) (n : Name) → is_word_of word n ≡ true → IsWordOf word n
tested word (name.Show view.Neighbours) h = elim (either_is (bytes_eq word (codes "neighbours")) (bytes_eq word (codes "neighbors")) h) [
  | inl british ↦ inl (is_its_word word (codes "neighbours") british)
  | inr american ↦ inr (is_its_word word (codes "neighbors") american)
]
tested word n h = is_its_word word (command_name_text n) h

passed_by : (test : Bool) (n : Name) (rest : Option Name) → (test ≡ true → ⊥) → rest ≡ None → cond test (Some n) rest ≡ None
passed_by true n rest not h = absurd (not refl)
passed_by false n rest not h = h

none_among : (word : Text) (ns : List Name) → ((n : Name) → IsWordOf word n → ⊥) → find (is_word_of word) ns ≡ None
none_among word [] not = refl
none_among word (n ∷ ns) not = passed_by (is_word_of word n) n (find (is_word_of word) ns) (λ is. not n (tested word n is)) (none_among word ns not)

-- of a word that is no name none is
pub no_name : (word : Text) → ((n : Name) → IsWordOf word n → ⊥) → name_in word ≡ None
no_name word not = none_among word all_names not

-- ---- names are text

-- the names of commands are text
pub names_are_text : (name : Name) → IsUtf8 (command_name_text name)
names_are_text (name.Show view.Neighbours) = search rules
names_are_text (name.Show view.Listing) = search rules
names_are_text (name.Show view.Table) = search rules
names_are_text (name.Show view.Floor) = search rules
names_are_text _ = search rules

american_is_text : IsUtf8 (codes "neighbors")
american_is_text = search rules

pub words_are_text : (word : Text) (n : Name) → IsWordOf word n → IsUtf8 word
words_are_text word (name.Show view.Neighbours) is = elim is [ inl british ↦ subst IsUtf8 (sym british) (names_are_text (name.Show view.Neighbours)) | inr american ↦ subst IsUtf8 (sym american) american_is_text ]
words_are_text word n is = subst IsUtf8 (sym is) (names_are_text n)
