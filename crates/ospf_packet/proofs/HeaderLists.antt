-- LSA headers that stand one after the other.
use Rattle.std.proofs.Common.{◌≡◌, ◌==◌, ℕ, zero, suc, drop, ◌*◌, List, [], ◌∷◌, ◌++◌, length, map, refl, sym, ap, ◌∙◌, arith}
use Rattle.std.specs.List.{flat_map, AllByRecursion}
use Rattle.std.proofs.lemmas.List.{drop_at, length-map}
use Rattle.ospf_base.specs.Constants.{lsa_header}
use Rattle.ospf_lsa.specs.declared.header.LsaHeader.{LsaHeader}
use Rattle.ospf_packet.specs.Headers.{aged_bytes, AgedFits, headers_in}
use Rattle.ospf_packet.specs.Spelling.{HeaderEntry, header_entry_bytes, HeaderEntryFits, SpellHeaders}
use Rattle.ospf_packet.proofs.EntryLemmas.{length_entries}
use Rattle.ospf_packet.proofs.FieldLemmas.{header_back}

cons_same : {A : Type 0} (a b : A) (xs ys : List A) → a ≡ b → xs ≡ ys → a ∷ xs ≡ b ∷ ys
cons_same a b xs ys p q = cc

abbrev header_in : HeaderEntry → LsaHeader
header_in e = e.header

entries_back : (es : List HeaderEntry) → AllByRecursion HeaderEntryFits es → headers_in (length es) (flat_map header_entry_bytes es) ≡ map header_in es
entries_back [] fits = refl
entries_back (e ∷ es) fits =
    let rest = flat_map header_entry_bytes es in
    cons_same _ _ _ _ (header_back e rest fits.0) (ap (headers_in (length es)) (drop_at (header_entry_bytes e) rest 20 refl) ∙ entries_back es fits.1)

pub spelled_length : (hs : List LsaHeader) (bytes : List ℕ) → SpellHeaders hs bytes → length bytes ≡ length hs * 20
spelled_length hs bytes s =
    let sized = length_entries 20 header_entry_bytes (λ e. refl) s.entries in
    let same = length-map s.entries header_in in
    omega (arith, ap length s.spelled, ap length s.are)

-- headers that are spelled are read
pub headers_back : (hs : List LsaHeader) (bytes : List ℕ) → SpellHeaders hs bytes → headers_in (length hs) bytes ≡ hs
headers_back hs bytes s =
    let count : length hs ≡ length s.entries = sym (ap length s.are) ∙ length-map s.entries header_in in
    ap (λ (n : ℕ). headers_in n bytes) count ∙ ap (headers_in (length s.entries)) s.spelled ∙ entries_back s.entries s.fit ∙ s.are

-- headers that are written are spelled
pub aged_spelled : (hs : List LsaHeader) → AllByRecursion AgedFits hs → SpellHeaders hs (flat_map aged_bytes hs)
aged_spelled [] fits = record { entries = []; are = refl; fit = tt; spelled = refl }
aged_spelled (h ∷ hs) fits =
    let rest = aged_spelled hs fits.1 in
    let young = fits.0.age in
    record {
      entries = record { header = h; age_field = h.age } ∷ rest.entries;
      are = ap (λ (t : List LsaHeader). h ∷ t) rest.are;
      fit = (record { age_fits = omega arith; age_is = omega arith; rest = fits.0.rest }, rest.fit);
      spelled = ap (λ (t : List ℕ). aged_bytes h ++ t) rest.spelled;
    }

-- as many headers are left as are counted
length-headers_in : (n : ℕ) (bytes : List ℕ) → length (headers_in n bytes) ≡ n
length-headers_in zero bytes = refl
length-headers_in (suc n) bytes = ap suc (length-headers_in n (drop lsa_header bytes))

pub count_left : (n : ℕ) (bytes : List ℕ) → (n == 0) ≡ (length (headers_in n bytes) == 0)
count_left n bytes = ap (λ (k : ℕ). k == 0) (sym (length-headers_in n bytes))
