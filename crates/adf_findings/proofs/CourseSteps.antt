-- The steps of a course: the part at its position is taken or skipped, or the position advances without one.
use Rattle.std.specs.Prelude.{Bool, not, ◌||◌, Option, Some, None}
use Rattle.std.proofs.{lemmas.List.length-set, lemmas.List.Sums.count_by-le-length, lemmas.Grind.common_steps}
use Rattle.std.proofs.Common.{◌≡◌, ℕ, suc, length, List, [], ◌∷◌, ◌<◌, ◌≤◌, inl, inr, set, refl, sym, subst, ap, ◌∙◌, arith}
use Rattle.adf_tree.specs.NameSet.{has}
use Rattle.adf_volume.specs.{Image.word_in, LayoutRoles.owner_of, Parts.renumbered, Parts.role_of}
use Rattle.adf_volume.specs.Positions.{Position, IsNoLater, IsUpTo, behind, position_of}
use Rattle.adf_volume.specs.Walk.{Role, Same, Asks, Enough, Has, Lacks, first, heads, second, Walk, Role.Head, Role.Ext, Role.Data}
use Rattle.adf_volume.specs.Owners.{is_part}
use Rattle.adf_findings.specs.{WalkOwners.HasNumber, WalkOwners.node_after, declared.course.Due.Due, declared.course.Reference.Reference}
use Rattle.adf_findings.specs.{declared.forms.Context.Context, declared.judge.Facts.Facts, declared.found.Found.Found, declared.progress.Progress.Progress}
use Rattle.adf_findings.specs.{Survey.Course, Forms.IsContext, Forms.Knows, Forms.Tells, Demands.uppers_in, Courses.role_asked}
use Rattle.adf_volume.proofs.{Gathered.IsGathered, Roles.asks_number, Roles.renumbered_same}
use Rattle.adf_volume.proofs.PositionSteps.{not_skipped, not_taken, past_skipped, past_taken, same_behind, same_position}
use Rattle.adf_volume.specs.declared.part.Part.{Part, TheVariants.Head as HeadPart}
use Rattle.adf_findings.specs.Found.{AreNamed, IsChain, IsKept, IsNextPart, IsTaken, KeepsName, Stands, has_name, is_owned, last_node}
use Rattle.adf_findings.specs.Courses.{HasReachedPart, Holds, IsGoneOn, IsNamed, IsNextReference, IsOutcome, IsSkipped, IsToTake, course_on, due_below, noted}
use Rattle.adf_findings.proofs.{Known.known_names, Known.knows, Known.own_name, OneSurvey.gathered, Taking.IsNumbered, Taking.stands_taken}
use Rattle.adf_findings.proofs.WalkOwners.{count_more, free_is, part_owns}

-- a part that comes next has the next number of its kind
pub numbered : (image : List ℕ) (w : Walk) → IsGathered image w → (r : Role) (a i : ℕ) → Asks image w r a i → Lacks w r → IsNumbered w r
numbered image w h r a i k l = grind (arith, common_steps, asks_number)

-- an extension block or a data block that is asked for has a number from 1
asked_number : (image : List ℕ) (w : Walk) (r : Role) (a i : ℕ) → Asks image w r a i → HasNumber (owner_of r)
asked_number image w r a i h = grind (arith, common_steps)

-- no extension block and no data block is that of a later node than all members
last_low : (w : Walk) (n : ℕ) → ((q : Role) (b : ℕ) → Has w q b → first q ≤ suc n) → last_node w ≤ n
last_low [] n low = omega arith
last_low (x ∷ w) n low = go x.0 (low x.0 x.1 (inl (refl, refl))) (last_low w n (λ q b h. low q b (inr h)))
  where
    go : (r : Role) → first r ≤ suc n → last_node w ≤ n → node_after (owner_of r) (last_node w) ≤ n
    go (Ext m k) le rest = omega (arith, le)
    go (Data m k) le rest = omega (arith, le)
    go _ le rest = rest

node_in_order : (w : Walk) (r : Role) → ((q : Role) (b : ℕ) → Has w q b → first q ≤ first r) → last_node w ≤ node_after (owner_of r) (last_node w)
node_in_order w r h = grind (arith, common_steps, last_low)

-- a part with the number of nodes is that which is asked for
pub role_is : {image : List ℕ} {f : Found} {s : Course} (part z : Part) {m : ℕ} → Stands image f s → m ≡ length f.nodes.items
    → role_of z ≡ renumbered m (role_of part) → role_of z ≡ role_asked s part
role_is part z st e is = is ∙ ap (λ m. renumbered m (role_of part)) (e ∙ st.count)

-- a course moves on to a later position that its walk has come to
pub moved : {image : List ℕ} {f : Progress} {k l : Position} {s : Course} → Holds image f k s → IsNoLater k l
    → IsUpTo image s.walk s.skipped l → Holds image f l s
moved {k = k} h le up_to = grind (arith, common_steps, up_to)

-- what is said of a part is so of it with any number
renumbered_context : (image : List ℕ) (w : Walk) (m : ℕ) (r : Role) (x : Context) → IsContext image w r x
    → IsContext image w (renumbered m r) x
renumbered_context image w m (Head n p s j) x h = h
renumbered_context image w m _ x h = h

renumbered_enough : (image : List ℕ) (w : Walk) (m : ℕ) (r : Role) (t : Bool) → Tells t (Enough image w r)
    → Tells t (Enough image w (renumbered m r))
renumbered_enough image w m (Head n p s j) t h = h
renumbered_enough image w m _ t h = h

-- a part of which no more than a block is said, by an equation
module _ {image : List ℕ} {f : Progress} {y : Due} {part : Part} {up a i : ℕ} {s : Course} (e : y ≡ due_below part up)
    (n : IsNamed image f (due_below part up) a i s) where
  pub below_named : IsNamed image f y a i s
  below_named = subst (λ y. IsNamed image f y a i s) (sym e) n

  pub below_reached : HasReachedPart image f y a i
  below_reached = (s, below_named)

  pub below_gone : {g : Progress} {o : Option ℕ} → ((s : Course) → IsNamed image f y a i s → IsGoneOn image s y.part a i g o)
      → IsGoneOn image s part a i g o
  below_gone {g} {o} gone = subst (λ y. IsGoneOn image s y.part a i g o) e (gone s below_named)

module _ {image : List ℕ} {f : Progress} {y : Due} {a i : ℕ} {s : Course} (n : IsNamed image f y a i s) where
  abbrev part : Part
  part = y.part

  abbrev role : Role
  role = role_asked s part

  same : Same role (role_of part)
  same = renumbered_same (suc (heads s.walk)) (role_of part)

  up_to : IsUpTo image s.walk s.skipped (position_of role)
  up_to = subst (IsUpTo image s.walk s.skipped) (sym (same_position role (role_of part) same)) n.holds.up_to

  -- a part that is named is next
  pub is_next : IsNextReference image s (record { due = y; holder = a; block = word_in image a i })
  is_next = grind (arith, common_steps, not_taken, role, up_to, not_skipped)

  v : IsGathered image s.walk
  v = gathered image n.holds.course

  next_number : IsNumbered s.walk role
  next_number = numbered image s.walk v role a i n.asked is_next.1.lacks

  place : (z : Part) → role_of z ≡ role → position_of (role_of z) ≡ position_of (role_of part)
  place z is = ap position_of is ∙ same_position role (role_of part) same

  -- the walk has earlier headers of the chain of a header that is not the first, and none of the chain of one that is
  pub known_chain : (z : Part) → role_of z ≡ role → IsChain s.walk z
  known_chain z is = grind (arith, common_steps, place)

  -- what is said of it tells what its demands ask
  pub known : {z : Part} {b : ℕ} (x : Facts) → role_of z ≡ role → x.is_enough ≡ y.is_enough
      → x.is_absent ≡ not (is_owned f.found b) → x.context ≡ y.context → Knows image s.walk z b x
  known {z} {b} x is enough absent context = grind (arith, common_steps, renumbered_context, renumbered_enough, knows)

  -- the names of its chain, for a part with its number
  pub known_named : (z : Part) → role_of z ≡ role → AreNamed image s.walk (position_of (role_of z)) f.found.names
  known_named z is = subst (λ k. AreNamed image s.walk k f.found.names) (sym (place z is)) n.holds.names

  abbrev reference_at : ℕ → Reference
  reference_at b = record { due = y; holder = a; block = b }

  -- what comes of the part in any course in which it is next
  abbrev AsJudged : ℕ → Progress → Option Part → Type 0
  AsJudged b g o = (t : Course) → Holds image f (position_of (role_of part)) t → IsNextReference image t (reference_at b)
      → IsOutcome image t (reference_at b) f g o

  outcome : (b : ℕ) (g : Progress) (o : Option Part) → b ≡ word_in image a i → AsJudged b g o
      → IsOutcome image s (reference_at (word_in image a i)) f g o
  outcome b g o e judged = grind (arith, common_steps, reference_at, is_next)

  pub to_take : {b : ℕ} {g : Progress} {o : Option Part} → b ≡ word_in image a i → AsJudged b g o → (z : Part)
      → o ≡ Some z → IsToTake image s (reference_at (word_in image a i)) f g z
  to_take {b} {g} {o} e judged z is = subst (IsOutcome image s (reference_at (word_in image a i)) f g) is (outcome b g o e judged)

  pub to_skip : {b : ℕ} {g : Progress} {o : Option Part} → b ≡ word_in image a i → AsJudged b g o → o ≡ None
      → IsSkipped image s (reference_at (word_in image a i)) f g
  to_skip {b} {g} {o} e judged is = subst (IsOutcome image s (reference_at (word_in image a i)) f g) is (outcome b g o e judged)

  -- the place behind a part that was skipped
  module _ {g : Progress} (o : IsSkipped image s (reference_at (word_in image a i)) f g) where
    skipped_up_to : IsUpTo image s.walk ((role, word_in image a i) ∷ s.skipped) (behind (role_of part))
    skipped_up_to = grind (arith, common_steps, role, same_behind, same, past_skipped, up_to)

    pub skipped_on : IsGoneOn image s part a i g None
    skipped_on = grind (arith, common_steps, up_to, skipped_up_to)

  -- the place behind a part that is taken
  module _ {g : Progress} {taken : Part} (o : IsToTake image s (reference_at (word_in image a i)) f g taken) where
    abbrev block : ℕ
    block = word_in image a i

    pub taken_number : IsNumbered s.walk (role_of taken)
    taken_number = subst (IsNumbered s.walk) (sym o.role) next_number

    pub taken_next : IsNextPart taken block g.found
    taken_next =
        let owners = o.stands.owners in
        let below : block < length g.found.owners.owners = omega (arith, o.inside, owners.size) in
        let free = free_is owners block o.past_boot o.free in
        let count = count_more g.found.owners.owners block (owner_of role) below (part_owns role) free in
        let most = count_by-le-length is_part (set g.found.owners.owners block (owner_of role)) in
        let size = length-set g.found.owners.owners block (owner_of role) in
        record {
          from = o.past_boot;
          below = below;
          free = free;
          number = subst (λ r. HasNumber (owner_of r)) (sym o.role) (asked_number image s.walk role a i n.asked);
          order = subst (λ r. g.found.owners.node ≤ node_after (owner_of r) g.found.owners.node) (sym o.role)
              (subst (λ m. m ≤ node_after (owner_of role) m) (sym owners.node) (node_in_order s.walk role (λ q b h. (up_to.taken q b h).0)));
          some = omega (arith, count, most, size, o.stands.left, owners.size);
        }

    module _ {h : Found} (t : IsTaken taken block g.found h) where
      abbrev later : Progress
      later = record { found = h; findings = g.findings }

      abbrev now : Course
      now = course_on s role block (Some block) later

      taken_stands : Stands image h now
      taken_stands =
          subst (λ r. Stands image h (record { walk = (r, block) ∷ s.walk; skipped = s.skipped; findings = noted g })) o.role
          (stands_taken image g.found h (record { walk = s.walk; skipped = s.skipped; findings = noted g }) block o.stands taken taken_number o.past_boot
          o.inside o.free t)

      taken_up_to : IsUpTo image ((role, block) ∷ s.walk) s.skipped (behind (role_of part))
      taken_up_to = grind (arith, common_steps, role, block, same_behind, same, past_taken, up_to, v)

      same_names : (taken : Part) → IsKept taken block g.found h → h.names ≡ g.found.names
      same_names (HeadPart m p t j) kept = kept.names
      same_names _ kept = kept.names

      taken_names : AreNamed image now.walk (behind (role_of part)) h.names
      taken_names = subst (AreNamed image now.walk (behind (role_of part))) (sym (same_names taken t.kept))
          (go taken o.role (known_named taken o.role) (known_chain taken o.role) o.names)
        where
          go : (taken : Part) → role_of taken ≡ role → AreNamed image s.walk (position_of (role_of taken)) f.found.names → IsChain s.walk taken
              → KeepsName image taken block f.found.names g.found.names → AreNamed image now.walk (behind (role_of part)) g.found.names
          go (HeadPart m p t j) is named chain kept = λ name c u v k b valid e d here.
              let place = same in
              let up : p ≡ u = (let x : suc p ≡ first role = ap first is in omega arith) in
              let slot : t ≡ v = (let x : suc (suc t) ≡ second role = ap second is in omega arith) in
              let upper = uppers_in image name in
              let here : has g.found.names upper ≡ has_name image ((Head m p t j, block) ∷ s.walk) p t upper =
              kept name valid
              ∙ (λ y. sym (own_name image m p t j block upper) y || known_names image s.walk m p t j f.found.names named chain name valid y) in
              here ∙ (λ y. has_name image ((is y, block) ∷ s.walk) (up y) (slot y) upper)
          go _ is named chain kept = λ name c u v k b valid e d here. absurd (let place = same in let x = ap second is in omega arith)

      pub taken_on : IsGoneOn image s part a i later (Some block)
      taken_on = record {
        holds = record { told = refl; course = o.course; stands = taken_stands; up_to = taken_up_to; names = taken_names; small = n.holds.small };
        block = refl;
      }
