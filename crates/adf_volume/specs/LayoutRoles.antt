-- The parts of a tree and a layout, by the roles of a walk.
use Rattle.std.specs.Prelude.{◌≡◌, ℕ, List}
use Rattle.std.proofs.Common.{zero, suc}
use Rattle.adf_volume.specs.{Lists.At, Image.root_of, declared.owner.Owner.Owner}
use Rattle.adf_base.specs.declared.hash.Letters.{Letters, TheVariants.Ascii}
use Rattle.adf_tree.specs.Tree.{Tree}
use Rattle.adf_volume.specs.Layout.{Layout, chain_nodes_by, at_node, exts_of, datas_of}
use Rattle.adf_volume.specs.declared.owner.Owner.TheVariants.{Root as TheRoot, Page as APage, MapExt as AMapExt, Head as AHead, Ext as AnExt, Data as AData}
use Rattle.adf_volume.specs.Walk.{Role, Role.Root, Role.Page, Role.MapExt, Role.Head, Role.Ext, Role.Data}

-- the owner of a block with this role
abbrev pub owner_of : Role → Owner
owner_of Root = TheRoot
owner_of (Page i) = APage i
owner_of (MapExt j) = AMapExt j
owner_of (Head n p s j) = AHead n
owner_of (Ext n k) = AnExt n k
owner_of (Data n k) = AData n k

-- the layout has this block in this role; names have these letters
abbrev pub LayoutHasBy : Letters → List ℕ → Tree → Layout → Role → ℕ → Type 0
LayoutHasBy letters image t l Root b = root_of image ≡ b
LayoutHasBy letters image t l (Page i) b = At l.pages i b
LayoutHasBy letters image t l (MapExt j) b = At l.map_exts j b
LayoutHasBy letters image t l (Head n p s j) b = At (chain_nodes_by letters t p s) j n × (at_node image l n ≡ b)
LayoutHasBy letters image t l (Ext n zero) b = ⊥
LayoutHasBy letters image t l (Ext n (suc k)) b = At (exts_of l n) k b
LayoutHasBy letters image t l (Data n zero) b = ⊥
LayoutHasBy letters image t l (Data n (suc k)) b = At (datas_of l n) k b

-- the same on volumes of types 0 and 1
abbrev pub LayoutHas : List ℕ → Tree → Layout → Role → ℕ → Type 0
LayoutHas = LayoutHasBy Ascii
