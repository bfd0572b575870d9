use Rattle.std.proofs.Common.{◌≡◌, ◌==◌, ◌+◌, ◌++◌, ◌∷◌, [], ℕ, suc, length, set, ap, refl, sym, ◌∙◌, arith, rules, true, false}
use Rattle.std.proofs.{lemmas.Bool.not-false, lemmas.Bool.not-true, lemmas.Grind.common_steps}
use Rattle.adf_blocks.specs.declared.layout.TheConstants.{SECONDARY_TYPE, ST_DIR}
use Rattle.adf_base.specs.Words.{word}
use Rattle.adf_tree.specs.NameSet.{has}
use Rattle.adf_names.specs.Texts.{uppers_by}
use Rattle.adf_volume.specs.declared.owner_class.OwnerClass.TheVariants as class
use Rattle.adf_check.specs.Store.{store_value}
use Rattle.adf_check.proofs.{NumberBounds.entry_short, NumberBounds.parent_short, ClaimSteps.claim_refused, StoreSteps.dirs_more}
use Rattle.adf_check.proofs.ChainSteps.{head_named, head_fault, twice_fault, head_done}
use Rattle.adf_check.proofs.chains.read_header.Goals as goal

pub returns-in_err-claim_named-clause-fault : goal.returns-in_err-claim_named-clause-fault
returns-in_err-claim_named-clause-fault c =
    claim_refused (head_named c.requires.slot c.requires.state c.requires.some) tt c.from_residual.result (search rules)

pub returns-in-Err-clause-fault : goal.returns-in-Err-clause-fault
returns-in-Err-clause-fault c =
    let claimed = c.in_ok-claim_named.ensures in
    rw c.fault_at.ensures (head_fault c.args.seen.now c.requires.slot c.requires.state c.requires.some claimed.range
    claimed.free c.kind-kind.ensures.kind c.letters-letters.ensures c.block.ensures.block c.in-Err.cause c.in-Err.ensures)

pub returns-then-not-branch-clause-fault : goal.returns-then-not-branch-clause-fault
returns-then-not-branch-clause-fault c =
    let claimed = c.in_ok-claim_named.ensures in
    let twice : has c.args.seen.now (uppers_by c.letters-letters.result c.name.result) ≡ true =
    not-false _ (sym c.in_ok-put_by.ensures.new ∙ c.if-not-branch.true) in
    rw c.fault_at-then-not-branch.ensures (twice_fault c.args.seen.now c.requires.slot
    c.requires.state c.requires.some claimed.range
    claimed.free c.kind-kind.ensures.kind c.letters-letters.ensures c.block.ensures.block c.in-Ok.ensures.0 c.in-Ok.ensures.1 c.name.ensures twice)

pub kept_header-requires : goal.kept_header-requires
kept_header-requires c = omega (arith, parent_short refl c.requires.state)

pub returns-clause-state : goal.returns-clause-state
returns-clause-state c =
    let store = store_value c.args.store.now in
    let claimed = c.in_ok-claim_named.ensures in
    let fresh : has c.args.seen.now (uppers_by c.letters-letters.result c.name.result) ≡ false =
    not-true _ (sym c.in_ok-put_by.ensures.new ∙ c.if-not-branch.false) in
    let count : c.len.result ≡ length store.headers = search rules in
    let pushed : c.push.new.self.items ≡ store.headers ++ record { parent = c.args.chain.now.parent; head = c.args.link.block } ∷ [] = search rules in
    let is_dir = c.is_directory.ensures ∙ ap (λ x. word x SECONDARY_TYPE == ST_DIR) (c.in-Ok.ensures.1 ∙ c.block.ensures.block) in
    head_done c.args.seen.now c.requires.slot c.requires.state c.requires.some claimed.range claimed.free
    c.kind-kind.ensures.kind c.letters-letters.ensures c.block.ensures.block c.in-Ok.ensures.0 c.in-Ok.ensures.1 c.name.ensures fresh _
    c.in_ok-put_by.ensures.more c.next.ensures (record {
      owners =
          claimed.ok
          ∙ ap (λ n. set store.owners c.args.link.block (record { class = class.Head; place = n }))
          (number c.requires.state.read.tells.headers.count count);
      headers = pushed;
      dirs = dirs_more c.args.image.now store.headers c.args.chain.now.parent c.args.link.block c.requires.state.read.tells.dirs is_dir c.from.ensures;
      starts = refl;
      exts = refl;
      datas = refl;
      used = claimed.count;
    })
  where
    number : {n m k : ℕ} → n ≡ m → k ≡ n → k + 1 ≡ suc m
    number a b = omega arith

pub overflow_cast-node : goal.overflow_cast-node
overflow_cast-node c = omega (arith, entry_short refl c.requires.state, c.len.ensures)

pub overflow_add-node : goal.overflow_add-node
overflow_add-node c = omega (arith, entry_short refl c.requires.state, c.len.ensures)

pub claim_named-requires-clause-place : goal.claim_named-requires-clause-place
claim_named-requires-clause-place c = grind (arith, common_steps, entry_short refl c.requires.state)
