-- What stands written where memory runs out, a stream fails or the published table
-- is closed before all is written.
use Rattle.std.specs.Prelude.{◌≡◌, ◌⊎◌, ℕ, List, [], ◌∷◌, ◌++◌, IfSome, Option}
use Rattle.std.specs.Io.KnownBytes.{Appends}
use Rattle.ospf_base.specs.declared.ids.Addr.{Addr}
use Rattle.ospf_base.specs.declared.ids.RouterId.{RouterId}
use Rattle.ospf_files.specs.Shown.{routes_text}
use Rattle.ospf_files.specs.Status.{failure_line, failure_status}
use Rattle.ospf_files.specs.Streams.{IsBegun, IsErrorCut, IsOfInput, IsOutputCut, IsTold, Written}
use Rattle.ospf_files.specs.declared.status.Failure.{Failure}
use Rattle.ospf_files.specs.declared.status.Failure.TheVariants as failure
use Rattle.ospf_files.specs.declared.status.Status.{Status}
use Rattle.ospf_files.specs.declared.streams.FailedStreams.{FailedStreams}
use Rattle.ospf_graph.specs.Routes.{IsTable}
use Rattle.ospf_graph.specs.declared.route.Route.{Route}
use Rattle.ospf_spf.specs.Listed.{advertisements_of}
use Rattle.ospf_table.specs.Line.{Reads, Refuses}
use Rattle.ospf_table.specs.Output.{AreLookups, IsOutput, IsTableWarning}
use Rattle.ospf_table.specs.Refusal.{refusal_line}
use Rattle.ospf_table.specs.declared.table.EntryFault.{EntryFault}

-- a beginning of the lookups of the first addresses was written
pub record AreLookupsBegun (table : List Route) (addresses : List Addr) (old new : Option (List ℕ))
    : Type 0 where
  pub before : List Addr
  pub after : List Addr
  pub addresses_are : addresses ≡ before ++ after
  pub lines : List ℕ
  pub are : AreLookups table before lines
  pub begun : IsBegun old new lines

-- a beginning of the output for the first addresses was written
pub record IsOutputBegun (table : List Route) (addresses : List Addr) (old new : Option (List ℕ))
    : Type 0 where
  pub before : List Addr
  pub after : List Addr
  pub addresses_are : addresses ≡ before ++ after
  pub text : List ℕ
  pub output : IsOutput table before text
  pub begun : IsBegun old new text

-- the lookups of the addresses before one were written whole
pub record AreLookupsBefore (table : List Route) (addresses : List Addr)
    (old new : Option (List ℕ)) : Type 0 where
  pub before : List Addr
  pub one : Addr
  pub after : List Addr
  pub addresses_are : addresses ≡ before ++ one ∷ after
  pub lines : List ℕ
  pub are : AreLookups table before lines
  pub written : Appends old new lines

-- the routes, and the lookups of the addresses before one, were written whole
abbrev pub IsOutputBefore : List Route → List Addr → Option (List ℕ) → Option (List ℕ) → Type 0
IsOutputBefore table addresses old new =
    (between : Option (List ℕ)) × Appends old between (routes_text table)
    × AreLookupsBefore table addresses between new

-- why the output is not whole: memory ran out, standard output is noted as failed, or the
-- published table was closed when an address was to be looked up, after this
abbrev pub IsLookupCut : FailedStreams → Type 0 → Failure → Type 0
IsLookupCut failed Before f = IsOutputCut failed f ⊎ ((f ≡ failure.Closed) × Before)

-- a line of the input is refused, and a beginning of the report about it was written
pub record IsLineRefusalBegun (input old new : Option (List ℕ)) : Type 0 where
  pub number : ℕ
  pub fault : EntryFault
  pub refused : IfSome input (λ bytes. Refuses bytes [] number fault)
  pub begun : IsBegun old new (refusal_line number fault)

-- a beginning of the warning was written
pub record IsTableWarningBegun (listing : List (List ℕ)) (root : RouterId) (table : List Route)
    (addresses : List Addr) (old new : Option (List ℕ)) : Type 0 where
  pub warning : List ℕ
  pub warned : IsTableWarning listing root table addresses warning
  pub begun : IsBegun old new warning

-- the warning was written
pub record IsWarned (listing : List (List ℕ)) (root : RouterId) (table : List Route)
    (addresses : List Addr) (old new : Option (List ℕ)) : Type 0 where
  pub warning : List ℕ
  pub warned : IsTableWarning listing root table addresses warning
  pub written : Appends old new warning

-- the table of a listing is cut short: memory ran out before anything was written; or in its
-- warning; or in the output; or the published table was closed when an address was to be looked
-- up, after the routes and the lookups before it
pub data IsTableCut (listing : List (List ℕ)) (root : RouterId) (addresses : List Addr)
    (failed : FailedStreams) (old new : Written) : Failure → Type 0 where
  no_table : new.err ≡ old.err → new.out ≡ old.out
      → IsTableCut listing root addresses failed old new failure.Memory
  in_warning : {f : Failure} (table : List Route) → IsErrorCut failed f
      → IsTable (advertisements_of listing) root table
      → IsTableWarningBegun listing root table addresses old.err new.err → new.out ≡ old.out
      → IsTableCut listing root addresses failed old new f
  in_output : {f : Failure} (table : List Route) → IsOutputCut failed f
      → IsWarned listing root table addresses old.err new.err
      → IsTable (advertisements_of listing) root table
      → IsOutputBegun table addresses old.out new.out
      → IsTableCut listing root addresses failed old new f
  at_lookup : (table : List Route) (between : Option (List ℕ))
      → IsWarned listing root table addresses old.err new.err
      → IsTable (advertisements_of listing) root table
      → Appends old.out between (routes_text table)
      → AreLookupsBefore table addresses between new.out
      → IsTableCut listing root addresses failed old new failure.Closed

-- the answer is cut short: the input was not read, or the report about a refused line is cut, or
-- the table
pub data IsTableAnswerCut (input : Option (List ℕ)) (root : RouterId) (addresses : List Addr)
    (failed : FailedStreams) (old new : Written) (f : Failure) : Type 0 where
  in_input : IsOfInput f → new.out ≡ old.out → new.err ≡ old.err
      → IsTableAnswerCut input root addresses failed old new f
  in_refusal : IsErrorCut failed f → IsLineRefusalBegun input old.err new.err → new.out ≡ old.out
      → IsTableAnswerCut input root addresses failed old new f
  in_table : (listing : List (List ℕ)) → IfSome input (λ bytes. Reads bytes [] listing)
      → IsTableCut listing root addresses failed old new f
      → IsTableAnswerCut input root addresses failed old new f

-- the answer was cut short by a failure, which was reported last, as far as
-- possible, and which determines the status
pub record IsTableCutShort (input : Option (List ℕ)) (root : RouterId) (addresses : List Addr)
    (failed : FailedStreams) (old new : Written) (status : Status) : Type 0 where
  pub cause : Failure
  pub failed_then : FailedStreams
  pub err_then : Option (List ℕ)
  pub cut :
      IsTableAnswerCut input root addresses failed_then old (record new { err = err_then }) cause
  pub last : IsTold failed_then failed err_then new.err (failure_line cause)
  pub status_is : status ≡ failure_status cause
