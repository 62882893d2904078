-- The fault of the list of one rank is the fault of the lists of all.
use Rattle.std.proofs.Common.{ℕ, List, [], get_or, subst, sym}
use Rattle.map_core.specs.declared.faults.MapFault.{MapFault}
use Rattle.map_core.specs.declared.faults.MapFault.TheVariants.{Repeated, OutOfSize, NoMem}
use Rattle.map_core.specs.Faults.{IsFirstList, IsMapFaultOf, IsOutsideIn, IsRankFaultOf, IsRepeatIn}

pub fault_of_rank : (size : ℕ) (lists : List (List ℕ)) (rank : ℕ) (fault : MapFault) → IsFirstList size lists rank
    → IsRankFaultOf rank size (get_or lists rank []) fault → IsMapFaultOf size lists fault
fault_of_rank size lists rank (Repeated p gid) first of =
    subst (λ q. IsFirstList size lists q × IsRepeatIn size (get_or lists q []) gid) (sym of.0) (first, of.1)
fault_of_rank size lists rank (OutOfSize p gid) first of =
    subst (λ q. IsFirstList size lists q × IsOutsideIn size (get_or lists q []) gid) (sym of.0) (first, of.1)
fault_of_rank size lists rank NoMem first of = tt
