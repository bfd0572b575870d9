-- The result for an image is that of its survey.
use Rattle.std.specs.Prelude.{Bool, cond, ◌==◌, Some, None, ◌&&◌, Option, ◌-◌, false, true, map, not, slice_get, slice_index}
use Rattle.std.proofs.Common.{◌≡◌, ℕ, List, [], ◌∷◌, ◌++◌, ◌≤◌, refl, sym, ap, subst, ◌∙◌, arith, ◌*◌, ◌<◌, length}
use Rattle.std.specs.{List.AllZip, List.filter, Option.option_flatten}
use Rattle.std.proofs.lemmas.Grind.{common_steps}
use Rattle.adf_blocks.specs.Sizes.{blocks}
use Rattle.adf_volume.proofs.Gathered.{head_block, numbered as has_number, number_of}
use Rattle.adf_volume.specs.Walk.{Has, heads, node_block, Walk, Role.Head}
use Rattle.adf_volume.proofs.Roles.{head_role}
use Rattle.adf_volume.specs.declared.owner.Owner.{Owner, TheVariants.Boot}
use Rattle.adf_findings.proofs.{Begun.new_owned, Concerning.concerned_kept, Concerning.no_concern_nth, GraveFindings.grave_is, GraveFindings.grave_kept}
use Rattle.adf_findings.proofs.{HeadPlaces.head_parent, BlockOwners.owner_is, OneSurvey.gathered, OneSurvey.one_survey, Starts.course_size}
use Rattle.adf_findings.proofs.WalkOwners.{entry_is, number_is, owned_is}
use Rattle.adf_findings.specs.{Found.AreOwned, Found.IsCompleted, Concerned.is_contested, Members.parent_node, Members.has_mark, declared.found.Found.Found}
use Rattle.adf_findings.specs.{declared.finding.Finding.Finding, Files.counting, Files.grave, Files.is_light, Marks.blamed, Marks.is_blamed, Marks.is_clear}
use Rattle.adf_findings.specs.{Marks.is_undoubted, declared.concern.Concern.Concern, Parts.finding_value, Sound.IsSound}
use Rattle.adf_findings.specs.Survey.{FindingValue, IsSurvey, UnreadTells, IsSurvey.read, IsSurvey.unread}
use Rattle.adf_findings.specs.SurveyResult.{IsOfSurvey, SurveyValue, TellsOf, block_at}
use Rattle.adf_findings.proofs.SoundMarks.{clear_is_sound, inside, unread_none}

-- nothing is taken of an image of which no block has an owner
none_owned : {owners : List Owner} → owners ≡ Boot ∷ Boot ∷ [] → AreOwned 2 (record { owners = owners; node = 0 }) []
none_owned {owners = owners} new = new_owned 2 (omega arith) (record { owners = owners; node = 0 }) new refl

-- of an image of which nothing is taken the findings are kept alone
pub unread_kept : (v : SurveyValue) → UnreadTells v.image (map finding_value v.findings) → v.concerned ≡ [] → v.owners ≡ Boot ∷ Boot ∷ []
    → ((b : ℕ) → has_mark v.contested b ≡ is_contested (map finding_value v.findings) b)
    → v.pages ≡ [] → v.nodes ≡ []
    → v.parents ≡ [] → v.places ≡ [] → v.sound ≡ [] → v.whole ≡ [] → IsOfSurvey v
unread_kept v told concerned owners contested pages nodes parents places sound whole = (
  [],
  map finding_value v.findings,
  record {
    survey = unread told;
    findings = refl;
    concerned = (λ k.
        ap (λ os. option_flatten (slice_get os k)) concerned ∙ sym (no_concern_nth [] (map finding_value v.findings) k (unread_none v.image told)));
    owner = (λ b. ap (λ n. cond (n == 0) None (Some n)) (entry_is (none_owned owners) b));
    number = number_is (none_owned owners);
    contested = contested;
    part = owned_is (none_owned owners);
    page = (λ i. ap (λ es. block_at es i) pages);
    node = (λ n. ap (λ ns. slice_index ns n) nodes);
    parent = (λ n. ap (λ ps. slice_index ps n) parents);
    places = places;
    count = (ap (λ ns. length ns - 1) nodes);
    sound = (λ n lo. ((λ t. (let clash : false ≡ true = sym (ap (λ ms. has_mark ms n) sound) ∙ t in cc)), (λ s. absurd s.header.has)));
    whole = (λ n lo. ((λ t. (let clash : false ≡ true = sym (ap (λ ms. has_mark ms n) whole) ∙ t in cc)), (λ s. absurd s.header.has)));
  },
)

-- a copy whose marks are each the same has the same marks
pub copied : (R : Bool → Bool → Type 0) → ((x y : Bool) → R x y → y ≡ x) → (xs ys : List Bool) → AllZip R xs ys → ys ≡ xs
copied R same [] [] z = refl
copied R same [] (y ∷ ys) z = absurd z
copied R same (x ∷ xs) [] z = absurd z
copied R same (x ∷ xs) (y ∷ ys) z = λ t. same x y z.0 t ∷ copied R same xs ys z.1 t

-- the marks of nodes that are not doubted, with those of what findings concern removed, are those of clear nodes
pub clear_marks : (image : List ℕ) (f : Found) (xs : List Finding) (base marks : List Bool) → ((m : ℕ) → has_mark base m ≡ is_undoubted image f m)
    → ((m : ℕ) → has_mark marks m ≡ (has_mark base m && not (is_blamed f xs m))) → (m : ℕ) → has_mark marks m ≡ is_clear image f xs m
clear_marks image f xs base marks undoubted struck m = grind (arith, common_steps)

-- of an image whose course is done, with its bits compared; xs are its findings, and ys those but the light ones
pub read_kept : (image : List ℕ) (f : Found) (xs ys : List Finding) (concerned : List (Option Concern)) (contested sound whole : List Bool)
    → IsCompleted image f (map finding_value xs) → concerned ≡ map (λ x. blamed f x.part) xs
    → ((b : ℕ) → has_mark contested b ≡ is_contested (map finding_value xs) b)
    → ((m : ℕ) → has_mark sound m ≡ is_clear image f xs m) → ys ≡ filter (λ x. not (is_light (finding_value x))) xs
    → ((m : ℕ) → has_mark whole m ≡ is_clear image f ys m)
    → IsOfSurvey (record {
      image = image;
      findings = xs;
      concerned = concerned;
      owners = f.owners.owners;
      contested = contested;
      pages = f.pages.entries;
      nodes = f.nodes.items;
      parents = f.parents.items;
      places = f.places.items;
      sound = sound;
      whole = whole;
    })
read_kept image f xs ys concerned contested sound whole (s, bits, all, bits_tell) entries disputes marks graves whole_marks = (
  s.walk,
  s.findings ++ bits,
  record {
    survey = read all.course all.done bits_tell;
    findings = sym all.told;
    concerned = (λ k.
        ap (λ os. option_flatten (slice_get os k)) entries
        ∙ concerned_kept image f all.course bits bits_tell all.stands xs (sym all.told) k);
    owner = owner_is image (gathered image all.course) f.owners.owners (entry_is all.stands.owners);
    number = number_is all.stands.owners;
    contested = (λ b. disputes b ∙ ap (λ fs. is_contested fs b) (sym all.told));
    part = owned_is all.stands.owners;
    page = all.stands.pages;
    node = all.stands.node;
    parent = all.stands.parent;
    places = all.stands.places;
    count = (let e = all.stands.count in omega arith);
    sound = (λ m lo.
        let x = clear_is_sound image f all.course all.done bits bits_tell (s.findings ++ bits) (λ g i. i) xs (sym all.told) all.stands m lo in
        ((λ t. x.0 (sym (marks m) ∙ t)), (λ y. marks m ∙ x.1 y)));
    whole = (λ m lo.
        let told : map finding_value ys ≡ grave (s.findings ++ bits) =
        ap (map finding_value) graves ∙ (grave_kept xs ∙ ap grave (sym all.told)) in
        let x = clear_is_sound image f all.course all.done bits bits_tell (grave (s.findings ++ bits)) (grave_is (s.findings ++ bits)) ys told
        all.stands m lo in
        ((λ t. x.0 (sym (whole_marks m) ∙ t)), (λ y. whole_marks m ∙ x.1 y)));
  },
)

-- an image whose course is done, with its bits compared, has a survey with these findings
pub read_told : (image : List ℕ) (f : Found) (fs : List FindingValue) → IsCompleted image f fs → (w : Walk) × IsSurvey image w fs
read_told image f fs (s, bits, all, bits_tell) = (s.walk, subst (IsSurvey image s.walk) all.told (read all.course all.done bits_tell))

-- what is kept of an image tells of each survey of it
pub tells_each : (v : SurveyValue) → IsOfSurvey v → (w : Walk) (fs : List FindingValue) → IsSurvey v.image w fs → TellsOf v w fs
tells_each v k w fs h = grind (arith, common_steps, one_survey)

-- the root is no entry
pub root_no_entry : (image : List ℕ) (w : Walk) (fs : List FindingValue) (c : Bool) (h : ℕ) → IsSurvey image w fs
    → IsSound image w (counting c fs) 0 h → ⊥
root_no_entry image w fs c h (unread f) s = s.header.has
root_no_entry image w fs c h (read v d t) s = omega (arith, number_of image (gathered image v) s.header)

-- the directory of an entry, as a function
pub parent_is : (image : List ℕ) (w : Walk) (fs : List FindingValue) → IsSurvey image w fs → (n p s j b : ℕ) → Has w (Head n p s j) b
    → parent_node w n ≡ p
parent_is image w fs (unread f) n p s j b h = absurd h
parent_is image w fs (read v d t) n p s j b h = head_parent image (gathered image v) n p s j b h

-- the header of an entry is inside of the image
pub header_inside : (image : List ℕ) (w : Walk) (fs : List FindingValue) → IsSurvey image w fs → (n : ℕ) → 1 ≤ n → n ≤ heads w
    → (length image ≡ 512 * blocks image) × (node_block w n < blocks image)
header_inside image w fs (unread f) n lo hi = absurd (omega arith)
header_inside image w fs (read {s = s} v d t) n lo hi =
    let x = has_number image (gathered image v) n lo hi in
    let at : node_block s.walk n ≡ x.0 = head_block image (gathered image v) x.1 in
    let lt : x.0 < blocks image =
    inside image v (head_role x.1) x.0 (λ e. cc) x.1.has in
    ((course_size image v).0, omega arith)
