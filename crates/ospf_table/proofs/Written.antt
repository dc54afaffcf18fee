-- Texts that are written one after the other.
use Rattle.std.proofs.Common.{arith, ◌≡◌, inl, inr, ap, sym, subst, ◌+◌, ◌<◌, ℕ, zero, suc, List, [], ◌∷◌, ◌++◌, length, take, drop, get_or, Option, append_assoc, append-nil, refl}
use Rattle.std.proofs.lemmas.List.{take_more, take-append-drop}
use Rattle.std.specs.Io.KnownBytes.{Appends, Keeps}
use Rattle.ospf_base.specs.declared.ids.Addr.{Addr}
use Rattle.ospf_base.specs.declared.ids.RouterId.{RouterId}
use Rattle.ospf_graph.specs.Routes.{IsTable}
use Rattle.ospf_graph.specs.declared.route.Route.{Route}
use Rattle.ospf_spf.specs.Listed.{advertisements_of}
use Rattle.ospf_table.specs.Line.{Reads}
use Rattle.ospf_files.specs.Shown.{routes_text}
use Rattle.ospf_files.proofs.Written.{both_written, front_begun, kept_written, nothing_written, rest_begun, whole_begun}
use Rattle.ospf_files.specs.Streams.{IsBegun, Written}
use Rattle.ospf_files.specs.declared.status.Failure.{Failure}
use Rattle.ospf_files.specs.declared.streams.FailedStreams.{FailedStreams}
use Rattle.ospf_table.specs.Cut.{AreLookupsBefore, AreLookupsBegun, IsLookupCut, IsOutputBefore, IsOutputBegun, IsTableCut, IsTableWarningBegun, IsWarned, at_lookup, in_output}
use Rattle.ospf_table.specs.Output.{IsLookupLine, AreLookups, IsTableAnswered, IsTableWarning, IsOutput, no_more, one_more}

-- the line of one address more
pub more_lookups : (table : List Route) (addresses : List Addr) (lines : List ℕ) (address : Addr) (line : List ℕ) → AreLookups table addresses lines
    → IsLookupLine table address.0 line → AreLookups table (addresses ++ address ∷ []) (lines ++ line)
more_lookups table _ _ address line no_more is = subst (AreLookups table (address ∷ [])) (append-nil line) (one_more is no_more)
more_lookups table _ _ address line (one_more {address = first} {rest = rest} {line = first_line} {lines = lines} first_is are) is =
    subst (AreLookups table (first ∷ (rest ++ address ∷ []))) (sym (append_assoc first_line lines line))
    (one_more first_is (more_lookups table rest lines address line are is))

-- the addresses so far are looked up
pub record HasLookups (a b : Option (List ℕ)) (table : List Route) (addresses : List Addr) : Type 0 where
  pub lines : List ℕ
  pub are : AreLookups table addresses lines
  pub written : Appends a b lines

pub lookup_written : (a b c : Option (List ℕ)) (table : List Route) (addresses : List Addr) (i : ℕ) (d : Addr) → i < length addresses
    → HasLookups a b table (take i addresses) → ((line : List ℕ) × IsLookupLine table (get_or addresses i d).0 line × Appends b c line)
    → HasLookups a c table (take (i + 1) addresses)
lookup_written a b c table addresses i d within so_far next =
    record {
      lines = so_far.lines ++ next.0;
      are = subst (λ front. AreLookups table front (so_far.lines ++ next.0)) (sym (take_more addresses i d within))
          (more_lookups table (take i addresses) so_far.lines (get_or addresses i d) next.0 so_far.are next.1);
      written = both_written a b c so_far.lines next.0 so_far.written next.2;
    }

-- a beginning of the line of one address more
pub lookup_begun : (a b c : Option (List ℕ)) (table : List Route) (addresses : List Addr) (i : ℕ) (d : Addr) → i < length addresses
    → HasLookups a b table (take i addresses) → ((line : List ℕ) × IsLookupLine table (get_or addresses i d).0 line × IsBegun b c line)
    → AreLookupsBegun table addresses a c
lookup_begun a b c table addresses i d within so_far next =
    record {
      before = take (i + 1) addresses;
      after = drop (i + 1) addresses;
      addresses_are = sym (take-append-drop (i + 1) addresses);
      lines = so_far.lines ++ next.0;
      are = subst (λ front. AreLookups table front (so_far.lines ++ next.0)) (sym (take_more addresses i d within))
          (more_lookups table (take i addresses) so_far.lines (get_or addresses i d) next.0 so_far.are next.1);
      begun = rest_begun a b c so_far.lines next.0 so_far.written next.2;
    }

-- the lookups so far, and no more
pub lookups_end : (a b : Option (List ℕ)) (table : List Route) (addresses : List Addr) (i : ℕ) → HasLookups a b table (take i addresses)
    → AreLookupsBegun table addresses a b
lookups_end a b table addresses i so_far = record {
  before = take i addresses;
  after = drop i addresses;
  addresses_are = sym (take-append-drop i addresses);
  lines = so_far.lines;
  are = so_far.are;
  begun = whole_begun a b so_far.lines so_far.written;
}

-- an address, and those before it and behind it
one_of : (addresses : List Addr) (i : ℕ) → i < length addresses → (one : Addr) × (after : List Addr) × (addresses ≡ take i addresses ++ one ∷ after)
one_of [] i within = absurd (omega (arith, within))
one_of (one ∷ after) zero within = (one, after, refl)
one_of (first ∷ rest) (suc i) within = let (one, after, are) = one_of rest i (omega (arith, within)) in (one, after, ap (λ l. first ∷ l) are)

-- the lookups so far, before one that is not there
pub lookups_before : (a b : Option (List ℕ)) (table : List Route) (addresses : List Addr) (i : ℕ) → i < length addresses → HasLookups a b table (take i addresses)
    → AreLookupsBefore table addresses a b
lookups_before a b table addresses i within so_far = record {
  before = take i addresses;
  one = (one_of addresses i within).0;
  after = (one_of addresses i within).1;
  addresses_are = (one_of addresses i within).2;
  lines = so_far.lines;
  are = so_far.are;
  written = so_far.written;
}

-- the routes, and then the lookups before one
pub output_before : (a b c : Option (List ℕ)) (table routes : List Route) (addresses : List Addr) → routes ≡ table → Appends a b (routes_text routes)
    → AreLookupsBefore table addresses b c → IsOutputBefore table addresses a c
output_before a b c table routes addresses same h looked = (b, subst (λ rs. Appends a b (routes_text rs)) same h, looked)

-- a beginning of the routes
pub routes_begun : (a b : Option (List ℕ)) (table routes : List Route) (addresses : List Addr) → routes ≡ table → IsBegun a b (routes_text routes)
    → IsOutputBegun table addresses a b
routes_begun a b table routes addresses same h =
    let front : IsBegun a b (routes_text table) = subst (λ rs. IsBegun a b (routes_text rs)) same h in
    record {
      before = [];
      after = addresses;
      addresses_are = refl;
      text = routes_text table ++ [];
      output = record { lookups = []; are_lookups = no_more; text_is = refl };
      begun = front_begun a b (routes_text table) [] front;
    }

-- the routes, and a beginning of the lookups
pub lookups_begun : (a b c : Option (List ℕ)) (table routes : List Route) (addresses : List Addr) → routes ≡ table → Appends a b (routes_text routes)
    → AreLookupsBegun table addresses b c → IsOutputBegun table addresses a c
lookups_begun a b c table routes addresses same h looked =
    let front : Appends a b (routes_text table) = subst (λ rs. Appends a b (routes_text rs)) same h in
    record {
      before = looked.before;
      after = looked.after;
      addresses_are = looked.addresses_are;
      text = routes_text table ++ looked.lines;
      output = record { lookups = looked.lines; are_lookups = looked.are; text_is = refl };
      begun = rest_begun a b c (routes_text table) looked.lines front looked.begun;
    }

-- all of it, which was not flushed
pub output_begun : (a b : Option (List ℕ)) (table : List Route) (addresses : List Addr) → ((text : List ℕ) × IsOutput table addresses text × Appends a b text)
    → IsOutputBegun table addresses a b
output_begun a b table addresses h = record {
  before = addresses;
  after = [];
  addresses_are = sym (append-nil addresses);
  text = h.0;
  output = h.1;
  begun = whole_begun a b h.0 h.2;
}

pub no_lookups : (a : Option (List ℕ)) (table : List Route) → HasLookups a a table []
no_lookups a table = record { lines = []; are = no_more; written = nothing_written a }

-- the routes, the lookups and a flush
pub output_written : (a b c d : Option (List ℕ)) (table routes : List Route) (addresses : List Addr) → routes ≡ table → Appends a b (routes_text routes)
    → ((lines : List ℕ) × AreLookups table addresses lines × Appends b c lines) → Keeps c d
    → (text : List ℕ) × IsOutput table addresses text × Appends a d text
output_written a b c d table routes addresses same h lookups flushed =
    let routes_written : Appends a b (routes_text table) = subst (λ rs. Appends a b (routes_text rs)) same h in
    let output : IsOutput table addresses (routes_text table ++ lookups.0) = record { lookups = lookups.0; are_lookups = lookups.1; text_is = refl } in
    (routes_text table ++ lookups.0, output, kept_written a c d _ (both_written a b c _ _ routes_written lookups.2) flushed)

-- the warning that was written
abbrev pub HasWarned : List (List ℕ) → RouterId → List Route → List Addr → Option (List ℕ) → Option (List ℕ) → Type 0
HasWarned listing root table addresses x y = (warning : List ℕ) × IsTableWarning listing root table addresses warning × Appends x y warning

pub has_warned : (x y : Option (List ℕ)) (listing : List (List ℕ)) (root : RouterId) (table : List Route) (given addresses : List Addr) (warning told : List ℕ)
    → given ≡ addresses → told ≡ warning → IsTableWarning listing root table given warning → Appends x y told → HasWarned listing root table addresses x y
has_warned x y listing root table given addresses warning told same told_is warned written = (
  warning,
  subst (λ (those : List Addr). IsTableWarning listing root table those warning) same warned,
  subst (Appends x y) told_is written,
)

-- a beginning of it
pub warning_begun : (x y : Option (List ℕ)) (listing : List (List ℕ)) (root : RouterId) (table : List Route) (given addresses : List Addr) (warning told : List ℕ)
    → given ≡ addresses → told ≡ warning → IsTableWarning listing root table given warning → IsBegun x y told → IsTableWarningBegun listing root table addresses x y
warning_begun x y listing root table given addresses warning told same told_is warned begun = record {
  warning = warning;
  warned = subst (λ (those : List Addr). IsTableWarning listing root table those warning) same warned;
  begun = subst (IsBegun x y) told_is begun;
}

-- the answer, and the warning
pub answered : (old new : Written) (input : List ℕ) (listing : List (List ℕ)) (root : RouterId) (table : List Route) (addresses : List Addr)
    → Reads input [] listing → HasWarned listing root table addresses old.err new.err → IsTable (advertisements_of listing) root table
    → ((text : List ℕ) × IsOutput table addresses text × Appends old.out new.out text) → IsTableAnswered input root addresses old new
answered old new input listing root table addresses reads warned is_table written = record {
  text = written.0;
  warning = warned.0;
  is = record { listing = listing; reads = reads; table = table; is_table = is_table; warned = warned.1; output = written.1 };
  out = written.2;
  err = warned.2;
}

-- the warning
pub is_warned : (x y : Option (List ℕ)) (listing : List (List ℕ)) (root : RouterId) (table : List Route) (addresses : List Addr)
    → HasWarned listing root table addresses x y → IsWarned listing root table addresses x y
is_warned x y listing root table addresses h = record { warning = h.0; warned = h.1; written = h.2 }

-- the table is cut in its output, or at an address
pub table_cut : (listing : List (List ℕ)) (root : RouterId) (addresses : List Addr) (failed : FailedStreams) (old new : Written) (table : List Route) (f : Failure)
    → IsWarned listing root table addresses old.err new.err → IsTable (advertisements_of listing) root table → IsOutputBegun table addresses old.out new.out
    → IsLookupCut failed (IsOutputBefore table addresses old.out new.out) f → IsTableCut listing root addresses failed old new f
table_cut listing root addresses failed old new table f warned is begun (inl cut) = in_output table cut warned is begun
table_cut listing root addresses failed old new table f warned is begun (inr (closed, before)) =
    subst (IsTableCut listing root addresses failed old new) (sym closed) (at_lookup table before.0 warned is before.1 before.2)
