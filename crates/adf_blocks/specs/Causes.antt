-- The texts and numbers of causes.
use Rattle.std.specs.Prelude.{ℕ, List, codes}
use Rattle.adf_blocks.specs.declared.cause.Cause.{Cause}
use Rattle.adf_blocks.specs.declared.cause.Cause.TheVariants.{BadSize, NotDos, International, DirCache, OutOfRange, Taken, BadSum, BadType, Link, BadOwnKey}
use Rattle.adf_blocks.specs.declared.cause.Cause.TheVariants.{BadParent, BadName, BadComment, WrongSlot, BadFirst, SameName, BadHashSize, NotValidated}
use Rattle.adf_blocks.specs.declared.cause.Cause.TheVariants.{ShortFile, BadData, LostBlock, OwnedFree, NoMemory}

-- the text of a cause as printed
abbrev pub cause_text : Cause → List ℕ
cause_text BadSize = codes "bad size"
cause_text NotDos = codes "not dos"
cause_text International = codes "international"
cause_text DirCache = codes "directory cache"
cause_text OutOfRange = codes "out of range"
cause_text Taken = codes "taken"
cause_text BadSum = codes "bad sum"
cause_text BadType = codes "bad type"
cause_text Link = codes "link"
cause_text BadOwnKey = codes "bad own key"
cause_text BadParent = codes "bad parent"
cause_text BadName = codes "bad name"
cause_text BadComment = codes "bad comment"
cause_text WrongSlot = codes "wrong slot"
cause_text BadFirst = codes "bad first"
cause_text SameName = codes "same name"
cause_text BadHashSize = codes "bad hash size"
cause_text NotValidated = codes "not validated"
cause_text ShortFile = codes "short file"
cause_text BadData = codes "bad data"
cause_text LostBlock = codes "lost block"
cause_text OwnedFree = codes "owned free"
cause_text NoMemory = codes "no memory"

-- the number of a cause, 1 to 23; within one block the tests run in ascending order of these numbers
abbrev pub cause_number : Cause → ℕ
cause_number BadSize = 1
cause_number NotDos = 2
cause_number International = 3
cause_number DirCache = 4
cause_number OutOfRange = 5
cause_number Taken = 6
cause_number BadSum = 7
cause_number BadType = 8
cause_number Link = 9
cause_number BadOwnKey = 10
cause_number BadParent = 11
cause_number BadName = 12
cause_number BadComment = 13
cause_number WrongSlot = 14
cause_number BadFirst = 15
cause_number SameName = 16
cause_number BadHashSize = 17
cause_number NotValidated = 18
cause_number ShortFile = 19
cause_number BadData = 20
cause_number LostBlock = 21
cause_number OwnedFree = 22
cause_number NoMemory = 23
