-- Where a survey has no finding, each entry is sound.
use Rattle.std.proofs.Common.{◌≡◌, ℕ, List, [], ◌∷◌, ◌++◌, inl, refl, sym, ap, subst, ◌∙◌}
use Rattle.adf_volume.specs.{Lists.In, Walk.Role, Walk.Has, Walk.HeadAt, Walk.Walk}
use Rattle.adf_volume.proofs.{Gathered.head_block, Lists.in_left}
use Rattle.adf_findings.specs.{Members.owns, Sound.IsOfItsKind, Sound.IsSound, Sound.says_data_of}
use Rattle.adf_findings.specs.Survey.{FindingValue, IsSurvey, IsSurvey.read, IsSurvey.unread}
use Rattle.adf_findings.proofs.{OneSurvey.gathered, SoundEntries.skipped_reported, SoundMarks.is_alone}

pub none_over : (over : Walk) → ((r : Role) (b : ℕ) → Has over r b → ⊥) → over ≡ []
none_over [] none = refl
none_over (x ∷ over) none = absurd (none x.0 x.1 (inl (refl, refl)))

pub all_sound : (image : List ℕ) (w : Walk) (fs : List FindingValue) (n h : ℕ) → IsSurvey image w fs → fs ≡ [] → IsOfItsKind image w
    → HeadAt w n h → IsSound image w fs n h
all_sound image w fs n h (unread f) e own g = absurd g.has
all_sound image w fs n h (read {s = s} {bits = bits} v d t) e own g =
    let none : (f : FindingValue) → In (s.findings ++ bits) f → ⊥ = (λ f i. subst (λ fs. In fs f) e i) in
    let over : s.skipped ≡ [] =
    none_over s.skipped (λ r b k. let x = skipped_reported image v r b k in none x.0 (in_left s.findings bits x.0 x.1)) in
    record {
      header = g;
      unreported = (λ f q i z same. none f i);
      exts = (λ k f q i z same. none f i);
      datas = (λ k f q i z same. none f i);
      chains = (λ f m t j i z. absurd (none f i));
      alone = (λ ffs k b has q a i ask named. is_alone image v d n k b has (ap (λ over. owns over b) over) q a i ask named);
      own = (λ ffs k b has. ap (λ h. says_data_of image h k b) (sym (head_block image (gathered image v) g)) ∙ own ffs n k b has);
    }
