-- The findings that leave a file its blocks, and the others.
-- Letters: f, g findings; fs, gs lists of them; xs the same as they are kept; n a file's node; k a part's number.
use Rattle.std.proofs.Common.{◌&&◌, Bool, map, not, Some, ◌≡◌, ◌∙◌, ℕ, List, [], ◌∷◌, ap, sym, arith, false, inl, inr, true}
use Rattle.std.specs.List.{filter}
use Rattle.std.proofs.{lemmas.Grind.common_steps, lemmas.Bool.cond_both}
use Rattle.adf_volume.specs.{Lists.In, Walk.Role, Walk.Walk, Walk.Role.Data, Walk.Role.Ext, Walk.Role.Head}
use Rattle.adf_volume.proofs.Roles.{same_role}
use Rattle.adf_findings.specs.{declared.finding.Finding.Finding, Parts.finding_value, Sound.IsUnreported, Survey.FindingValue}
use Rattle.adf_findings.specs.Files.{IsSoundFile, counting, grave, is_harmless, is_head, is_light}
use Rattle.adf_tree.proofs.Lists.{filter_of_map}

-- a grave finding is a finding
pub grave_is : (fs : List FindingValue) (g : FindingValue) → In (grave fs) g → In fs g
grave_is [] g h = h
grave_is (f ∷ fs) g h =
    cond_both (not (is_light f)) (f ∷ grave fs) (grave fs) (λ gs. In gs g → In (f ∷ fs) g)
    (λ t i. elim i [ inl e ↦ inl e | inr k ↦ inr (grave_is fs g k) ]) (λ t i. inr (grave_is fs g i)) h

-- a finding that is not light is a grave one
pub is_grave : (fs : List FindingValue) (g : FindingValue) → In fs g → is_light g ≡ false → In (grave fs) g
is_grave [] g h e = h
is_grave (f ∷ fs) g (inl z) e = grind (arith, common_steps)
is_grave (f ∷ fs) g (inr h) e = grind (arith, common_steps, cond_both, is_grave fs g h e)

-- the grave findings among those that are kept
pub grave_kept : (xs : List Finding) → map finding_value (filter (λ x. not (is_light (finding_value x))) xs) ≡ grave (map finding_value xs)
grave_kept xs = sym (filter_of_map finding_value (λ f. not (is_light f)) xs)

-- a finding of no header counts
pub counts : (b : Bool) (fs : List FindingValue) (g : FindingValue) → In fs g → is_head g.part ≡ false → In (counting b fs) g
counts true fs g h e = is_grave fs g h (ap (λ t. t && is_harmless g.cause) e)
counts false fs g h e = h

-- where no finding that counts concerns an extension block, none does
pub ext_unreported : (b : Bool) (fs : List FindingValue) (n k : ℕ) → IsUnreported (counting b fs) (Ext n k) → IsUnreported fs (Ext n k)
ext_unreported b fs n k none g q h e same =
    let is = same_role q (Ext n k) same (λ a m p s j e f. cc) in none g q (counts b fs g h (ap is_head e ∙ ap (λ r. is_head (Some r)) is)) e same

-- nor a data block
pub data_unreported : (b : Bool) (fs : List FindingValue) (n k : ℕ) → IsUnreported (counting b fs) (Data n k) → IsUnreported fs (Data n k)
data_unreported b fs n k none g q h e same =
    let is = same_role q (Data n k) same (λ a m p s j e f. cc) in none g q (counts b fs g h (ap is_head e ∙ ap (λ r. is_head (Some r)) is)) e same

-- a sound file is sound by the grave findings
less_unreported : (fs : List FindingValue) (r : Role) → IsUnreported fs r → IsUnreported (grave fs) r
less_unreported fs r h f q i = h f q (grave_is fs f i)

pub sound_is_whole : (image : List ℕ) (w : Walk) (fs : List FindingValue) (n : ℕ) → IsSoundFile image w fs n
    → IsSoundFile image w (grave fs) n
sound_is_whole image w fs n (s, type) = (
  record {
    header = s.header;
    unreported = less_unreported fs (Head n s.header.parent s.header.slot s.header.place) s.unreported;
    exts = (λ k. less_unreported fs (Ext n k) (s.exts k));
    datas = (λ k. less_unreported fs (Data n k) (s.datas k));
    chains = (λ f m t j i e. s.chains f m t j (grave_is fs f i) e);
    alone = s.alone;
    own = s.own;
  },
  type,
)
