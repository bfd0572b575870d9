-- What is proposed for a claim.
-- Letters: c a claim; d a deleted header; p a proposed entry; h the block of a header.
use Rattle.std.specs.Prelude.{◌≡◌, ◌==◌, ◌&&◌, ℕ, Bool, true, false, Option, Some, None}
use Rattle.adf_names.specs.Texts.{is_name}
use Rattle.adf_judge.specs.declared.judgement.Claim.{Claim}
use Rattle.adf_judge.specs.declared.judgement.DeletedHeader.{DeletedHeader}
use Rattle.adf_judge.specs.declared.judgement.Object.{Object, TheVariants.Directory, TheVariants.File}
use Rattle.adf_judge.specs.declared.judgement.Origin.{Origin, TheVariants.Made}
use Rattle.adf_keep.specs.declared.proposal.Proposed.{Proposed}

-- whether an entry is proposed: a directory, or a file that is given back
abbrev pub is_offered : Object → Bool → Bool
is_offered Directory given = true
is_offered File given = given
is_offered _ given = false

abbrev pub is_proposed : Claim → Bool
is_proposed c = is_offered c.object c.is_given

-- whether a deleted header is that of a file that no other part has taken a block of
abbrev pub is_whole_by : Object → (overwritten rival : ℕ) → Bool
is_whole_by File overwritten rival = (overwritten == 0) && (rival == 0)
is_whole_by _ overwritten rival = false

abbrev pub is_whole : DeletedHeader → Bool
is_whole d = is_whole_by d.object d.overwritten d.rival

-- the block of the header of an entry, but none of a directory that is made
abbrev pub header_of : Origin → Object → ℕ → Option ℕ
header_of Made Directory h = None
header_of origin object h = Some h

abbrev pub head_of : Claim → Option ℕ
head_of c = header_of c.origin c.object c.header

-- an entry that is proposed for a claim has its header; and its directory and its name, if it is to be kept and that is a name
pub record IsProposalOf (c : Claim) (p : Proposed) : Type 0 where
  pub head : p.head ≡ head_of c
  pub directory : is_proposed c ≡ true → is_name c.name.items ≡ true → p.directory ≡ c.directory
  pub name : is_proposed c ≡ true → is_name c.name.items ≡ true → p.name ≡ c.name.items
