use Rattle.adf_cmd.proofs.images.checked.Goals as goal

pub returns-in_default : goal.returns-in_default
returns-in_default c = record {
  image = tt;
  fits = tt;
  first = c.in-Err.ensures.first c.in_default.not-NoMemory;
  none = c.in-Err.ensures.none c.in_default.not-NoMemory;
}
